-- `command::temporary_name` meets its contract: with room and with none.
use native.Mathlib.Omega.{arith}
use Rattle.command.proofs.Temporary.{temporary_none, temporary_put}
use Rattle.command.proofs.temporary_name.Goals as goal

pub returns-then-saturating_sub-lt7 : goal.returns-then-saturating_sub-lt7
returns-then-saturating_sub-lt7 c =
    let a = c.args in
    temporary_none a.path.now a.name.now c.refuse.ensures (omega (arith, c.saturating_sub.ensures))

pub returns : goal.returns
returns c = rw c.wrote.ensures (temporary_put _ _ c.put_bytes-next.ensures c.put_bytes-end.ensures)
