-- `decimals::put_decimal` meets its contract. Invariant: the digits after place i are gathered, those of `rest` are to come.
use Rattle.decimals.proofs.Gathering.{Gathered}
use Rattle.decimals.proofs.put_decimal.Given as goal

abbrev pub invariant-loop-rest : goal.invariant-loop-rest
invariant-loop-rest l = Gathered l.x l.digits l.i l.rest

abbrev pub decreases-loop-rest : goal.decreases-loop-rest
decreases-loop-rest l = l.i
