-- `order_table::links` meets its contract. The loop's invariant: the table says what the pairs gone through do.
use lib.ListN.{take}
use Rattle.order_table.proofs.Turns.{Linking}
use Rattle.order_table.proofs.links.Given as goal

abbrev pub invariant-loop-pair : goal.invariant-loop-pair
invariant-loop-pair l = Linking l.table (take l.pairs l.fn.over) l.pair-index
