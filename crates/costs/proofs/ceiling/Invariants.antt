-- `costs::ceiling` meets its contract. Invariant: the labels below m are counted.
use mathlib.Core.Path.{◌≡◌}
use Rattle.order.specs.Table.{entry_at}
use Rattle.trees.specs.Growth.{ceiling}
use Rattle.costs.proofs.ceiling.Given as goal

abbrev pub invariant-loop-m : goal.invariant-loop-m
invariant-loop-m l = l.below ≡ ceiling l.m (entry_at l.rows) l.l
