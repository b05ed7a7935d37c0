-- `compression::load` meets its contract. The invariant: the words of the block up to `t` are stored, the rest of `w` is as it was.
use mathlib.Core.Path.{◌≡◌}
use mathlib.Core.List.{◌++◌}
use lib.ListN.{drop}
use Rattle.compression.specs.Compression.{words}
use Rattle.compression.proofs.load.Given as goal

abbrev pub invariant-loop-t : goal.invariant-loop-t
invariant-loop-t l = l.w ≡ words l.block l.t ++ drop l.t l.initial.w
