-- `order_table::joined` meets its contract. The loop's invariant: the first l entries are filled.
use mathlib.Core.Path.{◌≡◌}
use lib.ListN.{length, take}
use Rattle.order.specs.Table.{joined}
use Rattle.order_table.proofs.joined.Given as goal

abbrev pub invariant-loop-l : goal.invariant-loop-l
invariant-loop-l s = (length s.both ≡ 64) × (take s.l s.both ≡ take s.l (joined s.row s.above))
