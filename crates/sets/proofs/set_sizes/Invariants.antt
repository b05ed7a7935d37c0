-- `sets::set_sizes` meets its contract. Invariant: the labels below m are counted.
use mathlib.Core.Path.{◌≡◌}
use Rattle.order.specs.Table.{entry_at}
use Rattle.weights.specs.Tables.{entries, sizes_below}
use Rattle.sets.proofs.set_sizes.Given as goal

abbrev pub invariant-loop-m : goal.invariant-loop-m
invariant-loop-m l = l.sizes ≡ sizes_below l.labels (entry_at l.rows) (entries l.parents) l.m
