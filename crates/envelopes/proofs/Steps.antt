-- Laws of tree steps: none to a label of the smallest set, one more than to the parent otherwise, and never more than 63.
use Prim.Native.Nat.{ℕ, zero, suc, ◌+◌, ◌≤◌, ◌<◌}
use mathlib.Core.Bool.{Bool, true, false, cond}
use mathlib.Core.List.{List}
use mathlib.Core.Logic.{◌⊎◌, inl, inr}
use mathlib.Core.Path.{◌≡◌, refl, sym, ap, ◌∙◌}
use native.Mathlib.Nat.{le_refl}
use native.Mathlib.Omega.{arith}
use Rattle.trees.proofs.Lists.{answers}
use Rattle.trees.proofs.Smallest.{in_smallest_top}
use Rattle.trees.specs.Weights.{in_smallest}
use Rattle.envelopes.specs.Envelope.{steps_from, steps_to}
use Rattle.envelopes.specs.Labels.{Labels}
use Rattle.envelopes.proofs.Under.{not_smallest}

module _ (le : ℕ → ℕ → Bool) (parent : ℕ → ℕ) (l : ℕ) where
  steps_stop : (s m : ℕ) → in_smallest le parent l m ≡ true → steps_from le parent l s m ≡ 0
  unfolding steps_from
  steps_stop zero m e = refl
  steps_stop (suc s) m e = ap (λ (t : Bool). cond t 0 (steps_from le parent l s (parent m) + 1)) e

  steps_up : (s m : ℕ) → in_smallest le parent l m ≡ false → steps_from le parent l (suc s) m ≡ steps_from le parent l s (parent m) + 1
  unfolding steps_from
  steps_up s m e = ap (λ (t : Bool). cond t 0 (steps_from le parent l s (parent m) + 1)) e

  pub steps_held : (m : ℕ) → in_smallest le parent l m ≡ true → steps_to le parent l m ≡ 0
  unfolding steps_to
  steps_held m e = steps_stop m m e

  steps_bound : (s m : ℕ) → steps_from le parent l s m ≤ s
  unfolding steps_from
  steps_bound zero m = le_refl 0
  steps_bound (suc s) m = go (in_smallest le parent l m) (steps_bound s (parent m))
    where
      go : (held : Bool) → steps_from le parent l s (parent m) ≤ s → cond held 0 (steps_from le parent l s (parent m) + 1) ≤ suc s
      go true h = omega arith
      go false h = omega arith

  pub steps_upto : (m : ℕ) → steps_to le parent l m ≤ m
  unfolding steps_to
  steps_upto m = steps_bound m m

module _ {n : ℕ} {R : ℕ → ℕ → Type 0} {le : ℕ → ℕ → Bool} {name : ℕ → List ℕ} {parent : ℕ → ℕ} (L : Labels n R le name parent) {l : ℕ} (hl : l < n) where
  -- m steps are enough, and more change nothing
  steps_enough : (a b m : ℕ) → m ≤ a → m ≤ b → m < n → le m l ≡ true → steps_from le parent l a m ≡ steps_from le parent l b m
  steps_enough zero b m ha hb hm e = let t = in_smallest_top le parent l m e (omega arith) in steps_stop le parent l 0 m t ∙ sym (steps_stop le parent l b m t)
  steps_enough (suc a) zero m ha hb hm e = let t = in_smallest_top le parent l m e (omega arith) in steps_stop le parent l (suc a) m t ∙ sym (steps_stop le parent l 0 m t)
  steps_enough (suc a) (suc b) m ha hb hm e = go (answers (in_smallest le parent l m)) (steps_enough a b (parent m))
    where
      go : (in_smallest le parent l m ≡ true) ⊎ (in_smallest le parent l m ≡ false)
          → (parent m ≤ a → parent m ≤ b → parent m < n → le (parent m) l ≡ true → steps_from le parent l a (parent m) ≡ steps_from le parent l b (parent m))
          → steps_from le parent l (suc a) m ≡ steps_from le parent l (suc b) m
      go (inl t) ih = steps_stop le parent l (suc a) m t ∙ sym (steps_stop le parent l (suc b) m t)
      go (inr f) ih =
          let u = not_smallest L hl m hm e f in
          steps_up le parent l a m f
          ∙ ap (λ (s : ℕ). s + 1) (ih (omega (arith, u.falls)) (omega (arith, u.falls)) u.label u.below)
          ∙ sym (steps_up le parent l b m f)

  pub steps_down : (m : ℕ) → m < n → le m l ≡ true → in_smallest le parent l m ≡ false → steps_to le parent l m ≡ steps_to le parent l (parent m) + 1
  unfolding steps_to
  steps_down zero hm e f = absurd ((not_smallest L hl 0 hm e f).other refl)
  steps_down (suc m) hm e f =
      let u = not_smallest L hl (suc m) hm e f in
      steps_up le parent l m (suc m) f
      ∙ ap (λ (s : ℕ). s + 1) (steps_enough m (parent (suc m)) (parent (suc m)) (omega (arith, u.falls)) (omega arith) u.label u.below)

  -- "plus one for the key, never more than 64"
  pub steps_few : (m : ℕ) → m < n → steps_to le parent l m + 1 ≤ 64
  steps_few m hm = omega (arith, steps_upto le parent l m, L.few)
