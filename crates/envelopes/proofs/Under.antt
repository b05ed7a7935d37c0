-- What the order and the tree give for the labels at or below l.
use Prim.Native.Nat.{ℕ, ◌≤◌, ◌<◌}
use mathlib.Core.Bool.{Bool, true, false}
use mathlib.Core.List.{List}
use mathlib.Core.Logic.{◌⊎◌, inl, inr, ◌≢◌}
use mathlib.Core.Path.{◌≡◌, sym}
use native.Mathlib.Nat.{eq-or-lt_of_le}
use native.Mathlib.Omega.{arith}
use Rattle.trees.proofs.Lists.{answers, not_both}
use Rattle.trees.proofs.Order.{is_top, test_yes, test_says, test_no, above_lower}
use Rattle.trees.proofs.Smallest.{in_smallest_top, in_smallest_cut}
use Rattle.trees.specs.Trees.{top}
use Rattle.trees.specs.Weights.{in_smallest}
use Rattle.envelopes.specs.Envelope.{place_below}
use Rattle.envelopes.specs.Labels.{Labels}
use Rattle.envelopes.proofs.Places.{place_before, place_none}

-- label m hangs from an earlier label at or below l
pub record Under (n : ℕ) (le : ℕ → ℕ → Bool) (parent : ℕ → ℕ) (l m : ℕ) : Type 0 where
  pub other : m ≢ top
  pub label : parent m < n
  pub falls : parent m < m
  pub below : le (parent m) l ≡ true

-- a label that is not at or below l is not in the smallest set
pub outside : (le : ℕ → ℕ → Bool) (parent : ℕ → ℕ) (l m : ℕ) → le m l ≡ false → in_smallest le parent l m ≡ false
unfolding in_smallest
outside le parent l m e = rw e

module _ {n : ℕ} {R : ℕ → ℕ → Type 0} {le : ℕ → ℕ → Bool} {name : ℕ → List ℕ} {parent : ℕ → ℕ} (L : Labels n R le name parent) {l : ℕ} (hl : l < n) where
  -- l itself is at or below l, and is the first that is
  pub itself : le l l ≡ true
  itself = test_yes L.order hl hl (L.order.same l hl)

  pub first : (m : ℕ) → m < n → le m l ≡ true → l ≤ m
  first m hm e = L.order.upper m l hm hl (test_says L.order hm hl e)

  pub place_first : place_below le l l ≡ 0
  place_first = place_none le l l (λ i h. test_no L.order (omega arith) hl (λ r. omega (arith, L.order.upper i l (omega arith) hl r)))

  pub first_place : (m : ℕ) → m < n → le m l ≡ true → place_below le l m ≡ 0 → m ≡ l
  first_place m hm e z = go (eq-or-lt_of_le (first m hm e))
    where
      go : (l ≡ m) ⊎ (l < m) → m ≡ l
      go (inl q) = sym q
      go (inr h) = omega (arith, place_before le l l m h itself)

  -- a label at or below l that is not in the smallest set hangs from another one at or below l
  pub not_smallest : (m : ℕ) → m < n → le m l ≡ true → in_smallest le parent l m ≡ false → Under n le parent l m
  not_smallest m hm e f = go (is_top m) (answers (le (parent m) l))
    where
      go : (m ≡ top) ⊎ (m ≢ top) → (le (parent m) l ≡ true) ⊎ (le (parent m) l ≡ false) → Under n le parent l m
      go (inl q) t = absurd (not_both (in_smallest_top le parent l m e q) f)
      go (inr ne) (inr cut) = absurd (not_both (in_smallest_cut le parent l m e cut) f)
      go (inr ne) (inl t) =
          let a = L.tree.hangs m hm ne in
          record { other = ne; label = a.label; falls = above_lower L.order hm a; below = t }
