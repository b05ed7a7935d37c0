-- Labels past m are not above it, so the weights of its parents are the same whatever the number of labels past it.
use Prim.Native.Nat.{ℕ, zero, suc, ◌≤◌, ◌<◌}
use mathlib.Core.Bool.{Bool, true, false}
use mathlib.Core.Path.{◌≡◌, refl, sym, ◌∙◌}
use native.Mathlib.Decide.{dec_le}
use native.Mathlib.Omega.{arith}
use Rattle.trees.specs.Sums.{sum_where}
use Rattle.trees.specs.Weights.{weighed, weight, best, plan}
use Rattle.trees.proofs.Sums.{sum_where_no}
use Rattle.weights.specs.Tables.{Falls}

-- a sum in which nothing counts from k on
sum_where_past : (t : ℕ → Bool) (f : ℕ → ℕ) (k n : ℕ) → k ≤ n → ((l : ℕ) → k ≤ l → t l ≡ false) → sum_where t f n ≡ sum_where t f k
sum_where_past t f k zero h none = let e : k ≡ 0 = omega arith in rw e refl
sum_where_past t f k (suc n) h none = go (dec_le k n) (λ l. sum_where_past t f k n l none)
  where
    go : Dec (k ≤ n) → (k ≤ n → sum_where t f n ≡ sum_where t f k) → sum_where t f (suc n) ≡ sum_where t f k
    go (yes l) before = sum_where_no t f n (none n l) ∙ before l
    go (no g) before = let e : k ≡ suc n = omega arith in rw e refl

module _ (count : ℕ → ℕ) (le : ℕ → ℕ → Bool) (falls : Falls le) (m : ℕ) where
  -- no label past m is weighed
  past : (p l : ℕ) → suc m ≤ l → weighed le p m l ≡ false
  unfolding weighed
  past p l h = rw (go (le m l) refl)
    where
      go : (b : Bool) → le m l ≡ b → b ≡ false
      go true e = absurd (omega (arith, falls m l e))
      go false e = refl

  weight_to : (n p : ℕ) → m < n → weight n count le p m ≡ sum_where (weighed le p m) count (suc m)
  unfolding weight
  weight_to n p h = sum_where_past (weighed le p m) count (suc m) n h (past p)

  module _ (n k : ℕ) (hn : m < n) (hk : m < k) where
    pub weight_short : (p : ℕ) → weight k count le p m ≡ weight n count le p m
    weight_short p = weight_to k p hk ∙ sym (weight_to n p hn)

    best_short : (j : ℕ) → best k count le m j ≡ best n count le m j
    unfolding best
    best_short zero = refl
    best_short (suc p) = rw (best_short p, weight_short p, weight_short (best n count le m p)) refl

    pub plan_short : plan k count le m ≡ plan n count le m
    unfolding plan
    plan_short = best_short m
