-- Laws of places: how many labels before m are at or below l.
use Prim.Native.Nat.{ℕ, zero, suc, ◌+◌, ◌≤◌, ◌<◌}
use mathlib.Core.Bool.{Bool, true, false, cond}
use mathlib.Core.Logic.{◌⊎◌, inl, inr}
use mathlib.Core.Path.{◌≡◌, refl, sym, ap, ◌∙◌}
use native.Mathlib.Nat.{le_refl, eq-or-lt_of_le, le_of_suc-le-suc}
use native.Mathlib.Omega.{arith}
use Rattle.trees.proofs.Lists.{answers}
use Rattle.envelopes.specs.Envelope.{place_below}

-- the label whose record has place k
pub record LabelAt (le : ℕ → ℕ → Bool) (l n k : ℕ) : Type 0 where
  pub label : ℕ
  pub early : label < n
  pub below : le label l ≡ true
  pub place : place_below le l label ≡ k

module _ (le : ℕ → ℕ → Bool) (l : ℕ) where
  pub place_start : place_below le l 0 ≡ 0
  unfolding place_below
  place_start = refl

  -- a label at or below l takes a place, and no other does
  pub place_here : (m : ℕ) → le m l ≡ true → place_below le l (suc m) ≡ suc (place_below le l m)
  unfolding place_below
  place_here m e = ap (λ (t : Bool). place_below le l m + cond t 1 0) e ∙ omega arith

  pub place_skip : (m : ℕ) → le m l ≡ false → place_below le l (suc m) ≡ place_below le l m
  unfolding place_below
  place_skip m e = ap (λ (t : Bool). place_below le l m + cond t 1 0) e ∙ omega arith

  place_next : (m : ℕ) → place_below le l m ≤ place_below le l (suc m)
  place_next m = go (answers (le m l))
    where
      go : (le m l ≡ true) ⊎ (le m l ≡ false) → place_below le l m ≤ place_below le l (suc m)
      go (inl e) = omega (arith, place_here m e)
      go (inr e) = omega (arith, place_skip m e)

  -- places grow
  pub place_mono : (i m : ℕ) → i ≤ m → place_below le l i ≤ place_below le l m
  place_mono i zero h = let e : i ≡ 0 = omega arith in rw e (le_refl (place_below le l 0))
  place_mono i (suc m) h = go (eq-or-lt_of_le h) (place_mono i m)
    where
      go : (i ≡ suc m) ⊎ (i < suc m) → (i ≤ m → place_below le l i ≤ place_below le l m) → place_below le l i ≤ place_below le l (suc m)
      go (inl e) rest = rw e (le_refl (place_below le l (suc m)))
      go (inr k) rest = omega (arith, rest (le_of_suc-le-suc k), place_next m)

  -- and an earlier label at or below l has the smaller place
  pub place_before : (i m : ℕ) → i < m → le i l ≡ true → place_below le l i < place_below le l m
  place_before i m h e = omega (arith, place_here i e, place_mono (suc i) m h)

  pub place_upto : (m : ℕ) → place_below le l m ≤ m
  place_upto zero = omega (arith, place_start)
  place_upto (suc m) = go (place_upto m) (answers (le m l))
    where
      go : place_below le l m ≤ m → (le m l ≡ true) ⊎ (le m l ≡ false) → place_below le l (suc m) ≤ suc m
      go ih (inl e) = omega (arith, place_here m e)
      go ih (inr e) = omega (arith, place_skip m e)

  pub place_none : (m : ℕ) → ((i : ℕ) → i < m → le i l ≡ false) → place_below le l m ≡ 0
  place_none zero none = place_start
  place_none (suc m) none = place_skip m (none m (omega arith)) ∙ place_none m (λ i h. none i (omega arith))

  -- every place is that of a label
  pub place_label : (n k : ℕ) → k < place_below le l n → LabelAt le l n k
  place_label zero k h = absurd (omega (arith, place_start))
  place_label (suc n) k h = go (answers (le n l)) (λ r. later (place_label n k r))
    where
      later : LabelAt le l n k → LabelAt le l (suc n) k
      later a = record { label = a.label; early = omega arith; below = a.below; place = a.place }

      last : le n l ≡ true → k ≤ place_below le l n → (k < place_below le l n → LabelAt le l (suc n) k) → LabelAt le l (suc n) k
      last e r rest = by (eq-or-lt_of_le r)
        where
          by : (k ≡ place_below le l n) ⊎ (k < place_below le l n) → LabelAt le l (suc n) k
          by (inl q) = record { label = n; early = omega arith; below = e; place = sym q }
          by (inr s) = rest s

      go : (le n l ≡ true) ⊎ (le n l ≡ false) → (k < place_below le l n → LabelAt le l (suc n) k) → LabelAt le l (suc n) k
      go (inl e) rest = last e (omega (arith, place_here n e)) rest
      go (inr e) rest = rest (omega (arith, place_skip n e))
