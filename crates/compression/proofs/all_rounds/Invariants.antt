-- `compression::all_rounds` meets its contract. The invariant: the working variables are those after 4 * i rounds.
use mathlib.Core.Path.{◌≡◌}
use Prim.Native.Nat.{◌*◌}
use Rattle.compression.specs.Compression.{rounds}
use Rattle.compression.proofs.all_rounds.Given as goal

abbrev pub invariant-loop-i : goal.invariant-loop-i
invariant-loop-i l = l.v ≡ rounds l.w l.initial.v (4 * l.i)
