-- Lists one after the other: lengths, and equal functions.
use Prim.Native.Nat.{ℕ, zero, suc, ◌+◌, ◌*◌, ◌≤◌, ◌<◌}
use mathlib.Core.List.{List}
use mathlib.Core.Logic.{⊎_elim}
use mathlib.Core.Path.{◌≡◌, refl}
use native.Mathlib.Nat.{eq-or-lt_of_le, le_of_suc-le-suc}
use native.Mathlib.Omega.{arith}
use lib.ListN.{length, length-append}
use Rattle.lists.specs.Tables.{concat_below}

module _ (f : ℕ → List ℕ) where
  -- each fits after those before it
  pub concat_fit : (n m : ℕ) → m < n → length (concat_below f m) + length (f m) ≤ length (concat_below f n)
  unfolding concat_below
  concat_fit zero m h = absurd (omega arith)
  concat_fit (suc n) m h =
      let l = length-append (concat_below f n) (f n) in
      ⊎_elim (λ (e : m ≡ n). rw e (omega arith)) (λ (k : m < n). omega (arith, concat_fit n m k)) (eq-or-lt_of_le (le_of_suc-le-suc h))

  -- none is longer than k: n of them are not longer than k * n
  pub concat_short : (k : ℕ) → ((m : ℕ) → length (f m) ≤ k) → (n : ℕ) → length (concat_below f n) ≤ k * n
  unfolding concat_below
  concat_short k short zero = omega arith
  concat_short k short (suc n) = omega (arith, length-append (concat_below f n) (f n), concat_short k short n, short n)

-- two functions with the same values
pub concat_same : (f g : ℕ → List ℕ) (n : ℕ) → ((k : ℕ) → k < n → f k ≡ g k) → concat_below f n ≡ concat_below g n
unfolding concat_below
concat_same f g zero same = refl
concat_same f g (suc n) same = rw (concat_same f g n (λ k l. same k (omega arith)), same n (omega arith))
