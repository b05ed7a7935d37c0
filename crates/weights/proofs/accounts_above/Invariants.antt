-- `weights::accounts_above` meets its contract. Invariant: the first l entries are filled in, and they are small.
use Prim.Native.Nat.{ℕ, ◌≤◌, ◌<◌}
use mathlib.Core.Path.{◌≡◌}
use Rattle.lists.specs.Tables.{filled}
use Rattle.order.specs.Table.{entry_at}
use Rattle.weights.specs.Tables.{entries, accounts_above}
use Rattle.weights.proofs.accounts_above.Given as goal

abbrev pub invariant-loop-l : goal.invariant-loop-l
invariant-loop-l s =
    let f = accounts_above (entries s.counts) (entry_at s.rows) s.m in
    (s.above ≡ filled 64 0 f s.l) × ((k : ℕ) → k < s.l → f k ≤ 65_535)
