-- Numbers read from digits, and the loop that reads them.
use Rattle.std.specs.Prelude.{None, Some}
use Prim.Native.Nat.{ℕ, ◌+◌, ◌-◌, ◌*◌, ◌≤◌, ◌<◌, min}
use mathlib.Core.Bool.{Bool, true, false, cond, ◌&&◌}
use mathlib.Core.List.{List, [], ◌∷◌}
use mathlib.Core.Path.{◌≡◌, refl, ap, sym, ◌∙◌}
use native.Mathlib.Numerals.{add-one}
use native.Mathlib.Omega.{arith}
use borrow.Author.Tests.{lt-ltb, le-ltb}
use lib.Dec.{ltb}
use lib.ListN.{length, drop, get_or, drop_of_length-le}
use lib.Seq.{drop-cons}
use Rattle.format.specs.Digits.{value_behind, value_of}
use Rattle.command.specs.Typed.{is_digit, all_digits, number_of}

-- `007` is 7, `99999` is 65,536, and `5x` is no number
pub number_007 : number_of (48 ∷ 48 ∷ 55 ∷ []) ≡ Some 7
unfolding number_of all_digits value_behind
number_007 = refl

pub number_99999 : number_of (57 ∷ 57 ∷ 57 ∷ 57 ∷ 57 ∷ []) ≡ Some 65536
unfolding number_of all_digits value_behind
number_99999 = refl

pub number_5x : number_of (53 ∷ 120 ∷ []) ≡ None
unfolding number_of all_digits value_behind
number_5x = refl

-- digits say a number of up to 65,536, or stand for 65,536; anything else is none
module _ (s : List ℕ) where
  pub number_said : 0 < length s → all_digits s ≡ true → value_of s ≤ 65536 → number_of s ≡ Some (value_of s)
  unfolding number_of
  number_said some digits small =
      let e : min (value_of s) 65536 ≡ value_of s = omega arith in
      rw (lt-ltb 0 (length s) some, digits, e)

  pub number_large : 0 < length s → all_digits s ≡ true → 65536 ≤ value_of s → number_of s ≡ Some 65536
  unfolding number_of
  number_large some digits large =
      let e : min (value_of s) 65536 ≡ 65536 = omega arith in
      rw (lt-ltb 0 (length s) some, digits, e)

-- a cap on what stands before changes nothing in the capped value
value_capped : (s : List ℕ) (x : ℕ) → min (value_behind (min x 65536) s) 65536 ≡ min (value_behind x s) 65536
unfolding value_behind
value_capped [] x = omega arith
value_capped (b ∷ s) x =
    let e : min (10 * min x 65536 + (b - 48)) 65536 ≡ min (10 * x + (b - 48)) 65536 = omega arith in
    sym (value_capped s (10 * min x 65536 + (b - 48)))
    ∙ ap (λ (y : ℕ). min (value_behind y s) 65536) e
    ∙ value_capped s (10 * x + (b - 48))

-- after i bytes, all of them digits: x stands for what they say
pub record Reading (s : List ℕ) (x i : ℕ) : Type 0 where
  pub within : i ≤ length s
  pub small : x ≤ 65536
  pub digits : all_digits s ≡ all_digits (drop i s)
  pub value : min (value_of s) 65536 ≡ min (value_behind x (drop i s)) 65536

pub reading_none : (s : List ℕ) → Reading s 0 0
reading_none s = record { within = omega arith; small = omega arith; digits = refl; value = refl }

-- a byte that is no digit
no_number : (s : List ℕ) → all_digits s ≡ false → None ≡ number_of s
unfolding number_of
no_number s e = go (ltb 0 (length s))
  where
    go : (b : Bool) → None ≡ cond (b && all_digits s) (Some (min (value_of s) 65536)) None
    go true = rw e
    go false = refl

module _ (s : List ℕ) (x i : ℕ) (reading : Reading s x i) (inside : i < length s) where
  abbrev byte : ℕ
  byte = get_or s i 0

  rest : drop i s ≡ byte ∷ drop (i + 1) s
  rest = rw (add-one i) (drop-cons s i 0 inside)

  digits_rest : (t : Bool) → is_digit byte ≡ t → all_digits s ≡ t && all_digits (drop (i + 1) s)
  unfolding all_digits
  digits_rest t e = reading.digits ∙ rw (rest, e)

  pub reading_more : is_digit byte ≡ true → (y : ℕ) → y ≡ min (10 * x + (byte - 48)) 65536 → Reading s y (i + 1)
  unfolding value_behind
  reading_more digit y e = record {
    within = omega arith;
    small = omega arith;
    digits = digits_rest true digit;
    value = value;
  }
    where
      value : min (value_of s) 65536 ≡ min (value_behind y (drop (i + 1) s)) 65536
      value = reading.value ∙ rw (rest, e) (sym (value_capped (drop (i + 1) s) (10 * x + (byte - 48))))

  pub reading_other : is_digit byte ≡ false → None ≡ number_of s
  reading_other e = no_number s (digits_rest false e)

module _ (s : List ℕ) where
  pub reading_empty : length s ≡ 0 → None ≡ number_of s
  unfolding number_of
  reading_empty h = rw (le-ltb 0 (length s) (omega arith))

  pub reading_all : (x i : ℕ) → Reading s x i → length s ≤ i → (length s ≡ 0 → ⊥) → Some x ≡ number_of s
  unfolding number_of all_digits value_behind
  reading_all x i r h some =
      let end : drop i s ≡ [] = drop_of_length-le s h in
      let digits : all_digits s ≡ true = r.digits ∙ rw end in
      let value : min (value_of s) 65536 ≡ min x 65536 = r.value ∙ rw end in
      let small : min x 65536 ≡ x = omega (arith, r.small) in
      rw (lt-ltb 0 (length s) (omega (arith, some)), digits, value, small)
