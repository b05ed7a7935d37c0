-- `costs::growth_labels` meets its contract. Invariant: the figures of the first l labels are filled in.
use mathlib.Core.Path.{◌≡◌}
use Rattle.growth_answers.specs.Growing.{cost_at, ceiling_at}
use Rattle.lists.specs.Tables.{filled}
use Rattle.order.specs.Table.{entry_at}
use Rattle.weights.specs.Tables.{entries}
use Rattle.costs.proofs.growth_labels.Given as goal

abbrev pub invariant-loop-l : goal.invariant-loop-l
invariant-loop-l s =
    (s.costs ≡ filled 64 0 (cost_at s.labels (entries s.counts) (entry_at s.rows)) s.l)
    × (s.ceilings ≡ filled 64 0 (ceiling_at s.labels (entries s.counts) (entry_at s.rows)) s.l)
