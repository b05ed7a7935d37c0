-- `weighing::total_of` meets its contract: the total of the sizes is the tree's.
use Rattle.order.specs.Table.{entry_at}
use Rattle.weights.proofs.Agree.{sizes_total}
use Rattle.weights.specs.Tables.{entries}
use Rattle.weighing.proofs.total_of.Goals as goal

pub returns : goal.returns
returns c =
    let a = c.args in
    rw (c.total_keys.ensures, c.set_sizes-sizes.ensures)
    (sizes_total a.labels (entries a.counts.now) (entry_at a.rows.now) (entries a.parents.now))
