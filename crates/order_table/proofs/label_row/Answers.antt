-- `order_table::label_row` meets its contract. The loop's invariant: the row has what the labels before u add.
use mathlib.Core.Path.{◌≡◌, refl}
use native.Mathlib.Omega.{arith}
use Rattle.order.specs.Table.{entry_at, row_up_to, label_row}
use Rattle.order_table.proofs.Turns.{label_added, label_left}
use Rattle.order_table.proofs.label_row.Goals as goal
use Rattle.order_table.proofs.label_row.Goals.{then-links-m, else-links-m}

pub loop-u-init : goal.loop-u-init
unfolding row_up_to
loop-u-init c = rw c.alone-row.ensures refl

pub loop-u-preserved : goal.loop-u-preserved
loop-u-preserved c =
    let h = c.loop-u in
    let rows = c.args.rows.now in
    let leads = entry_at c.args.links.now c.args.m in
    elim c.if-links-m.branch [
      | then-links-m w ↦ rw w.row-is (label_added rows leads c.args.m h.u h.row h.invariant w.joined-both.result w.if-links-m.true w.joined-both.ensures)
      | else-links-m w ↦ rw w.row-is (label_left rows leads c.args.m h.u h.row h.invariant w.if-links-m.false)
    ]

pub returns : goal.returns
unfolding label_row
returns c =
    let h = c.loop-u in
    let end : h.u ≡ c.args.m = omega arith in
    rw end at h.invariant
