-- `sets::with_label` meets its contract. Invariant: the first l sizes are filled in.
use Prim.Native.Nat.{◌+◌}
use mathlib.Core.Path.{◌≡◌}
use Rattle.lists.specs.Tables.{filled}
use Rattle.order.specs.Table.{entry_at}
use Rattle.weights.specs.Tables.{entries, set_size}
use Rattle.sets.proofs.with_label.Given as goal

abbrev pub invariant-loop-l : goal.invariant-loop-l
invariant-loop-l s = s.next ≡ filled 64 0 (set_size (s.m + 1) (entry_at s.rows) (entries s.parents)) s.l
