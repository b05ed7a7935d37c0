-- `sets::total_keys` meets its contract. Invariant: the total is that of the labels gone through.
use Prim.Native.Nat.{◌*◌, ◌≤◌}
use mathlib.Core.Path.{◌≡◌}
use lib.ListN.{length}
use Rattle.trees.specs.Sums.{sum}
use Rattle.weights.specs.Tables.{entries, account_keys}
use Rattle.sets.proofs.total_keys.Given as goal

abbrev pub invariant-loop-count : goal.invariant-loop-count
invariant-loop-count z =
    (z.total ≡ sum (account_keys (entries z.fn.counts) (entries z.fn.sizes)) (length z.yielded)) × (z.total ≤ 16_711_425 * length z.yielded)
