-- `sets::in_smallest` meets its contract.
use Rattle.order.specs.Table.{entry_at}
use Rattle.weights.specs.Tables.{entries}
use Rattle.sets.proofs.Turns.{in_smallest_held}
use Rattle.sets.proofs.in_smallest.Goals as goal

pub returns : goal.returns
returns c =
    let a = c.args in
    in_smallest_held (entry_at a.rows.now) (entries a.parents.now) a.l a.m c.from-parent.result c.from-parent.ensures
