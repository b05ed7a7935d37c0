-- `weights::weight` meets its contract. Invariant: the sum is that of the labels gone through.
use Prim.Native.Nat.{◌*◌, ◌≤◌}
use mathlib.Core.Path.{◌≡◌}
use lib.ListN.{length}
use Rattle.order.specs.Table.{entry_at}
use Rattle.weights.specs.Tables.{entries, weight_from}
use Rattle.weights.proofs.weight.Given as goal

abbrev pub invariant-loop-more : goal.invariant-loop-more
invariant-loop-more s = (s.sum ≤ 65_535 * length s.yielded) × (s.sum ≡ weight_from (length s.yielded) (entries s.fn.above) (entry_at s.fn.rows) s.p)
