-- `weighing::weigh_tree` meets its contract: the totals of both trees, compared.
use mathlib.Core.Path.{ap, ◌∙◌}
use native.Mathlib.Omega.{arith}
use Rattle.order.specs.Table.{entry_at}
use Rattle.trees.specs.Weights.{total}
use Rattle.parents.specs.Choices.{chosen_of}
use Rattle.weights.specs.Tables.{entries}
use Rattle.parents.specs.declared.Chosen.{Chosen}
use Rattle.plan_answers.proofs.WorkedTables.{table_rowed, worked_answer}
use Rattle.weighing.proofs.weigh_tree.Goals as goal

pub total_of-fewest-requires : goal.total_of-fewest-requires
unfolding chosen_of
total_of-fewest-requires c =
    rw c.choose-best.ensures (omega arith, table_rowed _ _ _ _ (omega arith))

pub returns : goal.returns
unfolding chosen_of
returns c =
    let a = c.args in
    let n = a.labels in
    let count = entries a.counts.now in
    let le = entry_at a.rows.now in
    let chosen = ap (λ (x : Chosen). total n count le (entries x.parents)) c.choose-best.ensures in
    worked_answer n count le (entries a.offered.now) c.total_of-total.result c.total_of-fewest.result c.total_of-total.ensures (c.total_of-fewest.ensures ∙ chosen)
