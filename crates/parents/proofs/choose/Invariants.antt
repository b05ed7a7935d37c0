-- `parents::choose` meets its contract. Invariant: the first m parents and weights are filled in.
use mathlib.Core.Path.{◌≡◌}
use Rattle.lists.specs.Tables.{filled}
use Rattle.order.specs.Table.{entry_at}
use Rattle.trees.specs.Weights.{plan}
use Rattle.weights.specs.Tables.{entries, held_weight}
use Rattle.parents.proofs.choose.Given as goal

abbrev pub invariant-loop-m : goal.invariant-loop-m
invariant-loop-m l =
    let tree = plan l.labels (entries l.counts) (entry_at l.rows) in
    (l.parents ≡ filled 64 0 tree l.m) × (l.weights ≡ filled 64 0 (held_weight l.labels (entries l.counts) (entry_at l.rows) tree) l.m)
