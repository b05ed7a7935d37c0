-- Laws of tests below a number and of lists by place.
use Prim.Native.Nat.{ℕ, zero, suc, ◌+◌, ◌-◌, ◌≤◌, ◌<◌}
use mathlib.Core.Bool.{Bool, true, false, or-true, or-false, not, ◌&&◌, ◌||◌, false≢true}
use mathlib.Core.List.{[], ◌∷◌}
use mathlib.Core.Logic.{⊎_elim}
use mathlib.Core.Path.{◌≡◌, refl, sym, ap, ◌∙◌}
use native.Mathlib.Nat.{eq-or-lt_of_le, le_of_suc-le-suc}
use native.Mathlib.Numerals.{add-one}
use native.Mathlib.Omega.{arith}
use lib.ListN.{take, length-replicate, length, get_or, set, replicate, length-append, get_or-append}
use lib.Seq.{take_at, get_or-append-add, set_at, append_snoc, get_or_at}
use Rattle.lists.specs.Tables.{some_below, every_below, listed, filled}

-- one of the numbers below n
pub record Some (p : ℕ → Bool) (n : ℕ) : Type 0 where
  pub at : ℕ
  pub below : at < n
  pub here : p at ≡ true

module _ (p : ℕ → Bool) where
  pub some_at : (n k : ℕ) → k < n → p k ≡ true → some_below p n ≡ true
  unfolding some_below
  some_at zero k l h = absurd (omega arith)
  some_at (suc n) k l h =
      ⊎_elim (λ same. let e : p n ≡ true = ap p (sym same) ∙ h in rw (e, or-true)) (λ more. rw (some_at n k more h))
      (eq-or-lt_of_le (le_of_suc-le-suc l))

  pub some_below_lem : (n : ℕ) → some_below p n ≡ true → Some p n
  unfolding some_below
  some_below_lem zero e = absurd (false≢true e)
  some_below_lem (suc n) e = go (p n) refl (λ h. some_below_lem n h)
    where
      go : (t : Bool) → p n ≡ t → (some_below p n ≡ true → Some p n) → Some p (suc n)
      go true h rest = record { at = n; below = omega arith; here = h }
      go false h rest = let r = rest (sym (rw (h, or-false)) ∙ e) in record { at = r.at; below = omega arith; here = r.here }

-- every number below n has p: none of them lacks it
module _ (p : ℕ → Bool) where
  abbrev lacks : ℕ → Bool
  lacks k = not (p k)

  every_not : (n : ℕ) → every_below p n ≡ not (some_below lacks n)
  unfolding every_below some_below
  every_not zero = refl
  every_not (suc n) = rw (every_not n) (both (some_below lacks n) (p n))
    where
      both : (a b : Bool) → (not a && b) ≡ not (a || not b)
      both true b = refl
      both false true = refl
      both false false = refl

  pub every_more : (n : ℕ) → every_below p n ≡ true → p n ≡ true → every_below p (n + 1) ≡ true
  unfolding every_below
  every_more n e h = rw (add-one, e, h)

  pub every_miss : (n k : ℕ) → k < n → p k ≡ false → every_below p n ≡ false
  every_miss n k l h = every_not n ∙ ap not (some_at lacks n k l (ap not h))

  pub every_at : (n k : ℕ) → every_below p n ≡ true → k < n → p k ≡ true
  every_at n k e l = go (p k) refl
    where
      go : (t : Bool) → p k ≡ t → t ≡ true
      go true h = refl
      go false h = absurd (false≢true (sym (every_miss n k l h) ∙ e))

  pub every_all : (n : ℕ) → ((k : ℕ) → k < n → p k ≡ true) → every_below p n ≡ true
  unfolding every_below
  every_all zero all = refl
  every_all (suc n) all = rw (every_all n (λ k l. all k (omega arith)), all n (omega arith))

  pub every_fewer : (n m : ℕ) → n ≤ m → every_below p m ≡ true → every_below p n ≡ true
  every_fewer n m l e = every_all n (λ k h. every_at m k e (omega arith))

-- a list of one value has it everywhere
only : {A : Type 0} (n i : ℕ) (z : A) → get_or (replicate n z) i z ≡ z
only zero i z = refl
only (suc n) zero z = refl
only (suc n) (suc i) z = only n i z

module _ {A : Type 0} (f : ℕ → A) where
  pub length_listed : (n : ℕ) → length (listed f n) ≡ n
  unfolding listed
  length_listed zero = refl
  length_listed (suc n) = simp (length-append, length_listed n) (add-one n)

  pub get_d_listed : (n i : ℕ) (d : A) → i < n → get_or (listed f n) i d ≡ f i
  unfolding listed
  get_d_listed zero i d l = absurd (omega arith)
  get_d_listed (suc n) i d l =
      ⊎_elim (λ same. rw (get_or_at (listed f n) (f n) [] d i (length_listed n ∙ sym same)) (ap f (sym same)))
      (λ more. get_or-append (listed f n) (f n ∷ []) d i (omega (arith, length_listed n)) ∙ get_d_listed n i d more)
      (eq-or-lt_of_le (le_of_suc-le-suc l))

  -- a table that is filled from the front, one store a turn
  pub fill_more : (size : ℕ) (z : A) (n : ℕ) → n < size → set (filled size z f n) n (f n) ≡ filled size z f (n + 1)
  unfolding listed
  fill_more size z n l =
      let e : size - n ≡ suc (size - (n + 1)) = omega arith in
      rw (e, set_at (listed f n) z (replicate (size - (n + 1)) z) (f n) n (length_listed n), add-one)
      (sym (append_snoc (listed f n) (f n) (replicate (size - suc n) z)))

  module _ (size : ℕ) (z : A) (n : ℕ) where
    pub length_filled : n ≤ size → length (filled size z f n) ≡ size
    length_filled l = simp (length-append, length_listed n, length-replicate) (omega arith)

    pub take_filled : take n (filled size z f n) ≡ listed f n
    take_filled = take_at (listed f n) (replicate (size - n) z) n (length_listed n)

    pub get_d_filled : (i : ℕ) (d : A) → i < n → get_or (filled size z f n) i d ≡ f i
    get_d_filled i d l = get_or-append (listed f n) (replicate (size - n) z) d i (omega (arith, length_listed n)) ∙ get_d_listed n i d l

    pub get_d_past : (i : ℕ) → n ≤ i → get_or (filled size z f n) i z ≡ z
    get_d_past i l =
        let k : i ≡ length (listed f n) + (i - n) = omega (arith, length_listed n) in
        ap (λ (j : ℕ). get_or (filled size z f n) j z) k ∙ get_or-append-add (listed f n) (replicate (size - n) z) (i - n) z ∙ only (size - n) (i - n) z
