-- The digits of a number, gathered from the last to the first.
use Prim.Native.Nat.{ℕ, zero, suc, ◌-◌, ◌/◌, ◌%◌, ◌^◌, ◌≤◌, ◌<◌}
use mathlib.Core.List.{List, ◌∷◌}
use mathlib.Core.Path.{◌≡◌, sym, ◌∙◌}
use native.Mathlib.Omega.{arith}
use borrow.Author.Tests.{lt-ltb, le-ltb}
use lib.ListN.{length, set, drop, length-set, length-drop, take, drop_of_length-le}
use lib.Seq.{drop-cons, get_or-set_same, drop-set-lt, take_all}
use Rattle.decimals.specs.Decimal.{digit, digits_before, decimal}

-- a digit stored before the others
digit_stored : (digits : List ℕ) (i d : ℕ) → i < length digits → drop i (set digits i d) ≡ d ∷ drop (suc i) digits
digit_stored digits i d h =
    let l : i < length (set digits i d) = omega (arith, length-set digits i d) in
    drop-cons (set digits i d) i 0 l ∙ rw (get_or-set_same digits i d 0 h, drop-set-lt (suc i) digits i d (omega arith))

-- the digits after place i are gathered, those of `rest` are to come
pub record Gathered (x : ℕ) (digits : List ℕ) (i rest : ℕ) : Type 0 where
  pub place : i < 10
  pub small : rest < 10 ^ suc i
  pub size : length digits ≡ 10
  pub same : decimal x ≡ digits_before (suc i) rest (drop (suc i) digits)

-- nothing is gathered yet
pub gathered_none : (x : ℕ) (digits : List ℕ) → x < 10 ^ 10 → length digits ≡ 10 → Gathered x digits 9 x
unfolding decimal
gathered_none x digits h l =
    record { place = omega arith; small = h; size = l; same = rw (drop_of_length-le digits {i = 10} (omega arith)) }

-- the last digit of the rest, with others before it
pub gathered_more : (x : ℕ) (digits : List ℕ) (i rest : ℕ) → Gathered x digits i rest → 10 ≤ rest
    → (1 ≤ i) × Gathered x (set digits i (digit (rest % 10))) (i - 1) (rest / 10)
unfolding digits_before
gathered_more x digits zero rest g h = absurd (omega arith)
gathered_more x digits (suc i) rest g h =
    let one : suc i - 1 ≡ i = omega arith in
    let next : Gathered x (set digits (suc i) (digit (rest % 10))) i (rest / 10) = record {
      place = omega (arith, g.place);
      small = omega (arith, g.small);
      size = length-set digits (suc i) (digit (rest % 10)) ∙ g.size;
      same = g.same ∙ rw (le-ltb rest 10 h, digit_stored digits (suc i) (digit (rest % 10)) (omega (arith, g.size, g.place)));
    }
    in
    (omega arith, rw one next)

-- the first digit
pub gathered_all : (x : ℕ) (digits : List ℕ) (i rest : ℕ) → Gathered x digits i rest → rest < 10
    → take (10 - i) (drop i (set digits i (digit rest))) ≡ decimal x
unfolding digits_before
gathered_all x digits i rest g h =
    let d = digit rest in
    let short : length (drop i (set digits i d)) ≤ 10 - i = omega (arith, length-drop i (set digits i d), length-set digits i d, g.size) in
    take_all (10 - i) (drop i (set digits i d)) short
    ∙ digit_stored digits i d (omega (arith, g.size, g.place)) ∙ sym (g.same ∙ rw (lt-ltb rest 10 h))
