-- A name without its padding.
use Prim.Native.Nat.{ℕ, zero, suc, ◌≤◌, ◌<◌}
use mathlib.Core.Bool.{Bool, true, false, cond}
use mathlib.Core.List.Memᴰ
use mathlib.Core.List.{List, [], ◌∷◌, Memᴰ}
use mathlib.Core.Logic.{⊎_elim}
use mathlib.Core.Path.{◌≡◌, refl, sym, ap, ◌∙◌}
use native.Mathlib.Omega.{arith}
use borrow.Author.Tests.{eq-eqb, ne_eqb, eqb-false}
use lib.Dec.{eqb}
use lib.ListN.{length, get_or, take}
use lib.Seq.{length-take-le}
use Rattle.format.specs.Form.{Sign, letter, digit, NameForm}
use Rattle.format.specs.Names.{unpadded}

-- `SUITE` of `SUITE   `
pub unpadded_suite : unpadded (83 ∷ 85 ∷ 73 ∷ 84 ∷ 69 ∷ 32 ∷ 32 ∷ 32 ∷ []) ≡ 83 ∷ 85 ∷ 73 ∷ 84 ∷ 69 ∷ []
unfolding unpadded
unpadded_suite = refl

-- it is a front of the name
pub unpadded_front : (name : List ℕ) → unpadded name ≡ take (length (unpadded name)) name
unfolding unpadded
unpadded_front [] = refl
unpadded_front (b ∷ bs) = go (eqb b 32) (unpadded_front bs)
  where
    go : (t : Bool) → unpadded bs ≡ take (length (unpadded bs)) bs
        → cond t [] (b ∷ unpadded bs) ≡ take (length (cond t [] (b ∷ unpadded bs))) (b ∷ bs)
    go true e = refl
    go false e = ap (λ (l : List ℕ). b ∷ l) e

pub unpadded_short : (name : List ℕ) → length (unpadded name) ≤ length name
unfolding unpadded
unpadded_short [] = omega arith
unpadded_short (b ∷ bs) = go (eqb b 32) (unpadded_short bs)
  where
    go : (t : Bool) → length (unpadded bs) ≤ length bs → length (cond t [] (b ∷ unpadded bs)) ≤ suc (length bs)
    go true h = omega arith
    go false h = omega arith

-- the name's front of that length
pub unpadded_taken : (name bytes : List ℕ) (n : ℕ) → bytes ≡ name → n ≡ length (unpadded bytes) → take n bytes ≡ unpadded name
unpadded_taken name bytes n e l = rw l (sym (unpadded_front bytes)) ∙ ap unpadded e

-- a byte before the first space is none
pub unpadded_spaceless : (name : List ℕ) (b : ℕ) → Memᴰ b (unpadded name) → b ≡ 32 → ⊥
unfolding unpadded
unpadded_spaceless [] b m = absurd (Memᴰ.not-nil m)
unpadded_spaceless (a ∷ l) b m = go (eqb a 32) refl m (unpadded_spaceless l b)
  where
    go : (t : Bool) → eqb a 32 ≡ t → Memᴰ b (cond t [] (a ∷ unpadded l)) → (Memᴰ b (unpadded l) → b ≡ 32 → ⊥) → b ≡ 32 → ⊥
    go true e k rest = absurd (Memᴰ.not-nil k)
    go false e k rest = ⊎_elim (λ same. λ h. eqb-false a 32 e (sym same ∙ h)) rest (Memᴰ.cases_cons k)

-- signs and then spaces: the signs stand before the first space
signs_unpadded : (name : List ℕ) (n : ℕ) → n ≤ length name → ((i : ℕ) → i < n → get_or name i 0 ≡ 32 → ⊥)
    → ((i : ℕ) → n ≤ i → i < length name → get_or name i 0 ≡ 32) → unpadded name ≡ take n name
unfolding unpadded
signs_unpadded [] zero h sign space = refl
signs_unpadded [] (suc n) h sign space = absurd (omega arith)
signs_unpadded (b ∷ bs) zero h sign space = rw (eq-eqb b 32 (space 0 (omega arith) (omega arith)))
signs_unpadded (b ∷ bs) (suc n) h sign space =
    rw (
      ne_eqb b 32 (sign 0 (omega arith)),
      signs_unpadded bs n (omega arith) (λ i l. sign (suc i) (omega arith)) (λ i l k. space (suc i) (omega arith) (omega arith)),
    )

sign_spaceless : (b : ℕ) → Sign b → b ≡ 32 → ⊥
sign_spaceless b (letter l h) e = omega arith
sign_spaceless b (digit l h) e = omega arith

-- "name without padding": of a name that has its form, the signs, which are at least one
module _ (name : List ℕ) (form : NameForm name) where
  pub unpadded_signs : unpadded name ≡ take form.signs name
  unpadded_signs =
      signs_unpadded name form.signs form.within (λ i l. sign_spaceless (get_or name i 0) (form.sign i l)) form.space

  pub unpadded_some : 1 ≤ length (unpadded name)
  unpadded_some = rw unpadded_signs (omega (arith, length-take-le form.signs name form.within, form.some))
