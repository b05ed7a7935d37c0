-- The accounts above a label as a table: its entries are small, and the weight from it is the tree's.
use Prim.Native.Nat.{ℕ, zero, suc, ◌+◌, ◌≤◌, ◌<◌}
use mathlib.Core.Bool.{Bool, true, false, cond, not, ◌&&◌}
use mathlib.Core.List.{List}
use mathlib.Core.Path.{◌≡◌, refl, ap, ap₂, ◌∙◌}
use native.Mathlib.Decide.{dec_le, ℕ_discrete}
use native.Mathlib.Omega.{arith}
use Rattle.lists.specs.Tables.{filled}
use Rattle.trees.specs.Sums.{sum_where}
use Rattle.trees.specs.Weights.{weighed, weight}
use Rattle.trees.proofs.Sums.{sum_where_cong}
use Rattle.weights.specs.Tables.{entries, Small, accounts_above, above_table, weight_from}
use Rattle.weights.proofs.Reading.{entries_filled, entries_past}

pub small_as : {x y : ℕ} → x ≡ y → y ≤ 65_535 → x ≤ 65_535
small_as e h = rw e h

-- small entries so far, and one more
pub small_more : (f : ℕ → ℕ) (n : ℕ) → ((k : ℕ) → k < n → f k ≤ 65_535) → f n ≤ 65_535 → (k : ℕ) → k < n + 1 → f k ≤ 65_535
small_more f n before here k lt = go (ℕ_discrete k n)
  where
    go : Dec (k ≡ n) → f k ≤ 65_535
    go (yes e) = small_as (ap f e) here
    go (no ne) = before k (omega arith)

pub small_filled : (f : ℕ → ℕ) (n : ℕ) (table : List ℕ) → table ≡ filled 64 0 f n → ((k : ℕ) → k < n → f k ≤ 65_535) → Small table
small_filled f n table e all l = small_as (ap (λ (t : List ℕ). entries t l) e) (go (dec_le n l))
  where
    go : Dec (n ≤ l) → entries (filled 64 0 f n) l ≤ 65_535
    go (yes h) = small_as (entries_past f n l h) (omega arith)
    go (no h) = let lt : l < n = omega arith in small_as (entries_filled f n l lt) (all l lt)

module _ (count : ℕ → ℕ) (le : ℕ → ℕ → Bool) (p m : ℕ) where
  -- the two tests of a weighed label, one after the other
  both : (a b : Bool) (x : ℕ) → cond (not b) (cond a x 0) 0 ≡ cond (a && not b) x 0
  both true b x = refl
  both false true x = refl
  both false false x = refl

  weighed_sum : (n : ℕ) → sum_where (λ l. not (le p l)) (accounts_above count le m) n ≡ sum_where (weighed le p m) count n
  unfolding sum_where accounts_above weighed
  weighed_sum zero = refl
  weighed_sum (suc n) = ap₂ ◌+◌ (weighed_sum n) (both (le m n) (le p n) (count n))

  pub weight_from_lem : (n : ℕ) (above : List ℕ) → above ≡ above_table n count le m → weight_from n (entries above) le p ≡ weight n count le p m
  unfolding weight_from weight above_table
  weight_from_lem n above e =
      ap (λ (t : List ℕ). sum_where (λ l. not (le p l)) (entries t) n) e
      ∙ sum_where_cong (λ l. not (le p l)) (λ l. not (le p l)) (entries (filled 64 0 (accounts_above count le m) n)) (accounts_above count le m) n
      (λ l h. refl) (λ l h. entries_filled (accounts_above count le m) n l h)
      ∙ weighed_sum n
