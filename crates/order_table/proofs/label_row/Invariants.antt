-- `order_table::label_row` meets its contract. The loop's invariant: the row has what the labels before u add.
use mathlib.Core.Path.{◌≡◌}
use Rattle.order.specs.Table.{entry_at, row_up_to}
use Rattle.order_table.proofs.label_row.Given as goal

abbrev pub invariant-loop-u : goal.invariant-loop-u
invariant-loop-u l = l.row ≡ row_up_to l.rows (entry_at l.links l.m) l.m l.u
