-- `shown::show` meets its contract. Invariant: the first i bytes are shown at the buffer's start.
use Rattle.shown.proofs.Showing.{Showing}
use Rattle.shown.proofs.show.Given as goal

abbrev pub invariant-loop-i : goal.invariant-loop-i
invariant-loop-i l = Showing l.value l.initial.out l.out l.i
