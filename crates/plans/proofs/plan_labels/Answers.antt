-- `plans::plan_labels` meets its contract: what is worked out from the chosen parents is the plan.
use native.Mathlib.Omega.{arith}
use Rattle.order.specs.Table.{entry_at}
use Rattle.parents.specs.Choices.{chosen_of}
use Rattle.weights.specs.Tables.{entries}
use Rattle.plan_answers.proofs.WorkedTables.{table_rowed, worked_plan}
use Rattle.plans.proofs.plan_labels.Goals as goal

pub set_sizes-sizes-requires : goal.set_sizes-sizes-requires
unfolding chosen_of
set_sizes-sizes-requires c =
    rw c.choose-chosen.ensures (omega arith, table_rowed _ _ _ _ (omega arith))

pub returns : goal.returns
unfolding chosen_of
returns c =
    let a = c.args in
    rw (c.total_keys-total.ensures, c.set_sizes-sizes.ensures, c.choose-chosen.ensures)
    (worked_plan a.labels (entries a.counts.now) (entry_at a.rows.now) a.refusal)
