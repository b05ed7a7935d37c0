-- Laws of a name's form, for a reader that goes from byte to byte.
use Prim.Native.Nat.{ℕ, ◌+◌, ◌<◌}
use mathlib.Core.Bool.{Bool, true, false, cond, ◌&&◌, ◌||◌, or-true}
use mathlib.Core.List.{List, []}
use mathlib.Core.Logic.{◌⊎◌, inl, inr}
use mathlib.Core.Path.{◌≡◌, refl}
use native.Mathlib.Numerals.{add-one}
use lib.ListN.{length, get_or, drop}
use lib.Seq.{drop-cons}
use Rattle.format.specs.Names.{class_of, padding, formed, some_no_space, well_formed}
use Rattle.format.specs.declared.Class.TheVariants.{Letter, Digit, Space, Refused}
use Rattle.format.specs.declared.Class.{Class}

-- what is left to ask of the rest of a name, after bytes of which some are no spaces, and the last are spaces
unfoldable pub rest_formed : Bool → Bool → List ℕ → Bool
rest_formed some padded l = cond padded (padding l) (formed l) && (some || some_no_space l)

pub rest_start : (name : List ℕ) → well_formed name ≡ rest_formed false false name
unfolding well_formed rest_formed
rest_start name = refl

pub rest_end : (some padded : Bool) → rest_formed some padded [] ≡ some
unfolding rest_formed padding formed some_no_space
rest_end true true = refl
rest_end true false = refl
rest_end false true = refl
rest_end false false = refl

-- the byte at place i, of class k: a letter or a digit, a space, or none of these
module _ (name : List ℕ) (i : ℕ) (h : i < length name) (k : Class) (e : k ≡ class_of (get_or name i 0)) (some padded : Bool) where
  pub rest_sign : (k ≡ Letter) ⊎ (k ≡ Digit) → padded ≡ false → rest_formed some padded (drop i name) ≡ rest_formed true padded (drop (i + 1) name)
  unfolding rest_formed formed some_no_space
  rest_sign (inl letter) p = rw (add-one, p, drop-cons name i 0, ← e, letter, or-true)
  rest_sign (inr digit) p = rw (add-one, p, drop-cons name i 0, ← e, digit, or-true)

  pub rest_late : (k ≡ Letter) ⊎ (k ≡ Digit) → padded ≡ true → rest_formed some padded (drop i name) ≡ false
  unfolding rest_formed padding
  rest_late (inl letter) p = rw (p, drop-cons name i 0, ← e, letter)
  rest_late (inr digit) p = rw (p, drop-cons name i 0, ← e, digit)

  pub rest_space : k ≡ Space → rest_formed some padded (drop i name) ≡ rest_formed some true (drop (i + 1) name)
  unfolding rest_formed padding formed some_no_space
  rest_space space = go padded
    where
      go : (p : Bool) → rest_formed some p (drop i name) ≡ rest_formed some true (drop (i + 1) name)
      go true = rw (add-one, drop-cons name i 0, ← e, space)
      go false = rw (add-one, drop-cons name i 0, ← e, space)

  pub rest_refused : k ≡ Refused → rest_formed some padded (drop i name) ≡ false
  unfolding rest_formed padding formed
  rest_refused refused = go padded
    where
      go : (p : Bool) → rest_formed some p (drop i name) ≡ false
      go true = rw (drop-cons name i 0, ← e, refused)
      go false = rw (drop-cons name i 0, ← e, refused)
