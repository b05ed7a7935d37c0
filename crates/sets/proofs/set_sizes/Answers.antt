-- `sets::set_sizes` meets its contract. Invariant: the labels below m are counted.
use mathlib.Core.Path.{◌≡◌}
use native.Mathlib.Omega.{arith}
use Rattle.order.specs.Table.{entry_at}
use Rattle.weights.specs.Tables.{entries, sizes_below, size_table}
use Rattle.sets.proofs.Sizes.{sizes_none}
use Rattle.sets.proofs.set_sizes.Goals as goal

pub loop-m-init : goal.loop-m-init
loop-m-init c = let a = c.args in sizes_none (entry_at a.rows.now) (entries a.parents.now) a.labels (omega arith)

pub returns : goal.returns
unfolding sizes_below size_table
returns c =
    let l = c.loop-m in
    let end : l.m ≡ c.args.labels = omega arith in
    rw end at l.invariant
