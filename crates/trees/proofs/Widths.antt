-- With at most 64 labels and at most 65,535 accounts at each: a size is at most 64, a weight is below 2 ^ 22 and a total below 2 ^ 28, and so
-- is each of them as far as a loop has come (k labels).
use Prim.Native.Nat.{ℕ, ◌*◌, ◌^◌, ◌≤◌, ◌<◌}
use mathlib.Core.Bool.{Bool}
use native.Mathlib.Nat.{le_trans, mul-le-mul, le_refl}
use native.Mathlib.Omega.{arith}
use lib.ListN.{length}
use Rattle.trees.specs.Sums.{sum, sum_where}
use Rattle.trees.specs.Weights.{weighed, weight, in_smallest, smallest, label_keys, total}
use Rattle.trees.proofs.Sums.{sum_bound, sum_upto, sum_where_le}
use Rattle.trees.proofs.Select.{select_short}

module _ (n : ℕ) (few : n ≤ 64) (le : ℕ → ℕ → Bool) where
  pub size_bound : (parent : ℕ → ℕ) (l : ℕ) → length (smallest n le parent l) ≤ 64
  unfolding smallest
  size_bound parent l = omega (arith, select_short (in_smallest le parent l) n)

  module _ (count : ℕ → ℕ) (small : (l : ℕ) → l < n → count l ≤ 65_535) where
    pub counts_bound : sum count n < 2 ^ 22
    counts_bound = let h : sum count n ≤ 64 * 65_535 = le_trans (sum_bound count 65_535 n small) (mul-le-mul few (le_refl 65_535)) in omega arith

    pub weight_upto : (p m k : ℕ) → k ≤ n → sum_where (weighed le p m) count k < 2 ^ 22
    weight_upto p m k h = omega (arith, sum_where_le (weighed le p m) count k, sum_upto count k n h, counts_bound)

    pub weight_bound : (p m : ℕ) → weight n count le p m < 2 ^ 22
    unfolding weight
    weight_bound p m = weight_upto p m n (le_refl n)

    pub label_keys_bound : (parent : ℕ → ℕ) (l : ℕ) → l < n → label_keys n count le parent l ≤ 65_535 * 64
    unfolding label_keys
    label_keys_bound parent l hl = mul-le-mul (small l hl) (size_bound parent l)

    pub total_bound : (parent : ℕ → ℕ) → total n count le parent < 2 ^ 28
    unfolding total
    total_bound parent =
        let h : total n count le parent ≤ 64 * (65_535 * 64) =
        le_trans (sum_bound (label_keys n count le parent) (65_535 * 64) n (label_keys_bound parent)) (mul-le-mul few (le_refl (65_535 * 64))) in
        omega arith
