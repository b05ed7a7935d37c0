-- `costs::label_figures` meets its contract: for a label with room for one account more, and for a full one.
use mathlib.Core.Path.{sym, ◌∙◌}
use native.Mathlib.Omega.{arith}
use Rattle.growth_answers.proofs.GrowthAnswer.{room_cost, room_ceiling, full_none}
use Rattle.order.specs.Table.{entry_at}
use Rattle.weights.specs.Tables.{entries}
use Rattle.costs.proofs.label_figures.Goals as goal

pub returns-then-counts-l-lt65535 : goal.returns-then-counts-l-lt65535
returns-then-counts-l-lt65535 c =
    let k = c in
    let i = k in
    let a = i.args in
    let count = entries a.counts in
    let le = entry_at a.rows.now in (
      k.cost-cost.ensures ∙ sym (room_cost a.labels count le a.l (omega arith)),
      c.ceiling-ceiling.ensures ∙ sym (room_ceiling a.labels count le a.l (omega arith)),
    )

pub returns-else-counts-l-lt65535 : goal.returns-else-counts-l-lt65535
returns-else-counts-l-lt65535 c =
    let a = c.args in
    let n = full_none a.labels (entries a.counts) (entry_at a.rows.now) a.l (omega arith) in
    (sym n.0, sym n.1)
