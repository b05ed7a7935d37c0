-- `roster_lines::put_account` meets its contract, however the account stands.
use native.Mathlib.Omega.{arith}
use Rattle.buffers.proofs.Writes.{put_nothing}
use Rattle.roster_answers.proofs.RosterParts.{unknown_none}
use Rattle.roster_lines.proofs.put_account.Goals as goal

pub returns-in-Unknown : goal.returns-in-Unknown
returns-in-Unknown c =
    let a = c.args in
    rw (c.in-Unknown.is, unknown_none a.policy.now a.number) (put_nothing a.out.now a.at (omega arith))
