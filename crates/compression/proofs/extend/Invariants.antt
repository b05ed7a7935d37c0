-- `compression::extend` meets its contract. The invariant: the words of the schedule up to `t` are stored.
use mathlib.Core.Path.{◌≡◌}
use mathlib.Core.List.{◌++◌}
use Prim.Native.Nat.{◌-◌}
use lib.ListN.{take, drop}
use Rattle.compression.specs.Compression.{extended}
use Rattle.compression.proofs.extend.Given as goal

abbrev pub invariant-loop-t : goal.invariant-loop-t
invariant-loop-t l = l.w ≡ extended (take 16 l.initial.w) (l.t - 16) ++ drop l.t l.initial.w
