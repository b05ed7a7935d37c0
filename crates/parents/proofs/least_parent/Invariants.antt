-- `parents::least_parent` meets its contract. Invariant: parent is the best of the labels below p, and weight its weight.
use mathlib.Core.Path.{◌≡◌}
use Rattle.order.specs.Table.{entry_at}
use Rattle.trees.specs.Weights.{weight, best}
use Rattle.weights.specs.Tables.{entries}
use Rattle.parents.proofs.least_parent.Given as goal

abbrev pub invariant-loop-p : goal.invariant-loop-p
invariant-loop-p l =
    (l.parent ≡ best l.labels (entries l.counts) (entry_at l.rows) l.m l.p) × (l.weight ≡ weight l.labels (entries l.counts) (entry_at l.rows) l.parent l.m)
