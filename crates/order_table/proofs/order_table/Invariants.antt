-- `order_table::order_table` meets its contract. The loop's invariant: the rows of the labels below m are made.
use mathlib.Core.Path.{◌≡◌}
use Rattle.order.specs.Table.{entry_at, rows_below}
use Rattle.order_table.proofs.order_table.Given as goal

abbrev pub invariant-loop-m : goal.invariant-loop-m
invariant-loop-m l = l.rows ≡ rows_below l.m (entry_at l.links)
