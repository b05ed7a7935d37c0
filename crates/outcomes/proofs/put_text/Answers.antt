-- `outcomes::put_text` meets its contract: the buffer has room for the line of a number.
use native.Mathlib.Omega.{arith}
use Rattle.buffers.proofs.Handed.{handed_put}
use Rattle.buffers.proofs.Writes.{put_none}
use Rattle.decimals.proofs.Worded.{refused_short}
use Rattle.outcomes.proofs.put_text.Goals as goal

pub returns-in-Failed : goal.returns-in-Failed
returns-in-Failed c = rw c.in-Failed.is (put_none c.args.out.now)

pub returns-in-Refused : goal.returns-in-Refused
returns-in-Refused c =
    let e = c.refused_text.ensures in
    rw c.in-Refused.is (handed_put _ _ (omega (arith, c.requires, refused_short c.in-Refused.number)) e.0 e.1)
