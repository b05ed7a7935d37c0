-- `decimals::refused_text` meets its contract.
use native.Mathlib.Omega.{arith}
use lib.ListN.{length}
use Rattle.buffers.proofs.Handed.{front_handed, front_left}
use Rattle.decimals.specs.Worded.{refused_text}
use Rattle.decimals.proofs.Worded.{refused_short}
use Rattle.decimals.proofs.refused_text.Goals as goal

pub returns : goal.returns
unfolding refused_text
returns c =
    let out = c.args.out.now in
    let put = rw c.from.ensures at c.put_worded-length.ensures in
    (front_handed put (length out) c.hand_out.ensures.0, front_left put out c.hand_out.ensures.1)

pub put_worded-length-requires : goal.put_worded-length-requires
unfolding refused_text
put_worded-length-requires c = omega (arith, refused_short c.from.result)
