-- `order_table::order_table` meets its contract. The loop's invariant: the rows of the labels below m are made.
use mathlib.Core.Path.{refl}
use native.Mathlib.Omega.{arith}
use Rattle.order.specs.Table.{entry_at, rows_below}
use Rattle.order_table.proofs.Turns.{row_more, rows_whole}
use Rattle.order_table.proofs.order_table.Goals as goal

pub loop-m-init : goal.loop-m-init
unfolding rows_below
loop-m-init c = refl

pub loop-m-preserved : goal.loop-m-preserved
loop-m-preserved c =
    let h = c.loop-m in
    row_more h.rows c.label_row.result (entry_at c.links-links.result) h.m h.invariant c.label_row.ensures

pub returns : goal.returns
returns c =
    let a = c.args in
    rows_whole c.loop-m.rows c.links-links.result a.over a.labels a.pairs c.min-m-end.result c.min.result c.loop-m.m
    (omega arith) c.min-m-end.ensures c.min.ensures (omega arith) c.links-links.ensures c.loop-m.invariant
