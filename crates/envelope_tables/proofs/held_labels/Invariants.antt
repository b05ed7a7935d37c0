-- `envelope_tables::held_labels` meets its contract. Invariant: the labels below m are filled in.
use mathlib.Core.Bool.{false}
use mathlib.Core.Path.{◌≡◌}
use Rattle.lists.specs.Tables.{filled}
use Rattle.order.specs.Table.{entry_at}
use Rattle.trees.specs.Weights.{in_smallest}
use Rattle.weights.specs.Tables.{entries}
use Rattle.envelope_tables.proofs.held_labels.Given as goal

abbrev pub invariant-loop-m : goal.invariant-loop-m
invariant-loop-m l = l.held ≡ filled 64 false (in_smallest (entry_at l.rows) (entries l.parents) l.l) l.m
