-- `decimal` writes a number as 01's sentence says: "decimal without leading zeros".
use Prim.Native.Nat.{ℕ, zero, suc, ◌+◌, ◌-◌, ◌*◌, ◌/◌, ◌%◌, ◌^◌, ◌≤◌, ◌<◌}
use mathlib.Core.Bool.{Bool, true, false, cond}
use mathlib.Core.List.Memᴰ
use mathlib.Core.List.{List, [], ◌∷◌, Memᴰ}
use mathlib.Core.Logic.{⊎_elim}
use mathlib.Core.Path.{◌≡◌, refl, ap, ◌∙◌}
use native.Mathlib.Decide.{ℕ_discrete}
use native.Mathlib.Omega.{arith}
use borrow.Author.Tests.{ltb-true, ltb-false}
use lib.Dec.{ltb}
use lib.ListN.{length, get_or}
use Rattle.format.specs.Digits.{value_behind, value_of}
use Rattle.decimals.specs.Decimal.{digit, digits_before, decimal, Decimal}

-- 907 is printed as `907`
pub decimal_907 : decimal 907 ≡ 57 ∷ 48 ∷ 55 ∷ []
unfolding decimal digits_before
decimal_907 = refl

-- one turn of `digits_before`: x is its first digit, or its last digit goes before those behind
module _ (x : ℕ) (behind : List ℕ) where
  abbrev rest : ℕ → List ℕ
  rest n = digits_before n (x / 10) (digit (x % 10) ∷ behind)

  turn : (P : List ℕ → Type 0) (n : ℕ) → (x < 10 → P (digit x ∷ behind)) → (10 ≤ x → P (rest n)) → P (digits_before (suc n) x behind)
  unfolding digits_before
  turn P n first last = go (ltb x 10) refl
    where
      go : (t : Bool) → ltb x 10 ≡ t → P (cond t (digit x ∷ behind) (rest n))
      go true e = first (ltb-true x 10 e)
      go false e = last (ltb-false x 10 e)

-- x digits are written before those behind
digits_say : (n x : ℕ) (behind : List ℕ) → x < 10 ^ n → value_of (digits_before n x behind) ≡ value_behind x behind
unfolding digits_before value_behind
digits_say zero x behind h = let none : x ≡ 0 = omega arith in rw none
digits_say (suc n) x behind h =
    turn x behind (λ s. value_of s ≡ value_behind x behind) n
    (λ l. let e : 10 * 0 + (digit x - 48) ≡ x = omega arith in ap (λ (k : ℕ). value_behind k behind) e)
    (λ l. let e : 10 * (x / 10) + (digit (x % 10) - 48) ≡ x = omega arith in
    digits_say n (x / 10) (digit (x % 10) ∷ behind) (omega arith) ∙ ap (λ (k : ℕ). value_behind k behind) e)

-- they are digits
digits_digits : (n x : ℕ) (behind : List ℕ) → ((b : ℕ) → Memᴰ b behind → (48 ≤ b) × (b ≤ 57))
    → (b : ℕ) → Memᴰ b (digits_before n x behind) → (48 ≤ b) × (b ≤ 57)
unfolding digits_before
digits_digits zero x behind all = all
digits_digits (suc n) x behind all =
    turn x behind (λ s. (b : ℕ) → Memᴰ b s → (48 ≤ b) × (b ≤ 57)) n
    (λ l. more x l)
    (λ l. digits_digits n (x / 10) (digit (x % 10) ∷ behind) (more (x % 10) (omega arith)))
  where
    more : (d : ℕ) → d < 10 → (b : ℕ) → Memᴰ b (digit d ∷ behind) → (48 ≤ b) × (b ≤ 57)
    more d l b m = ⊎_elim (λ e. omega arith) (all b) (Memᴰ.cases_cons m)

-- at least one and at most n of them
digits_kept : (n x : ℕ) (behind : List ℕ) → length behind ≤ length (digits_before n x behind)
unfolding digits_before
digits_kept zero x behind = omega arith
digits_kept (suc n) x behind =
    turn x behind (λ s. length behind ≤ length s) n (λ l. omega arith) (λ l. omega (arith, digits_kept n (x / 10) (digit (x % 10) ∷ behind)))

digits_some : (n x : ℕ) (behind : List ℕ) → 1 + length behind ≤ length (digits_before (suc n) x behind)
digits_some n x behind =
    turn x behind (λ s. 1 + length behind ≤ length s) n (λ l. omega arith) (λ l. omega (arith, digits_kept n (x / 10) (digit (x % 10) ∷ behind)))

digits_short : (n x : ℕ) (behind : List ℕ) → length (digits_before n x behind) ≤ n + length behind
unfolding digits_before
digits_short zero x behind = omega arith
digits_short (suc n) x behind =
    turn x behind (λ s. length s ≤ suc n + length behind) n (λ l. omega arith)
    (λ l. omega (arith, digits_short n (x / 10) (digit (x % 10) ∷ behind)))

pub decimal_short : (x : ℕ) → length (decimal x) ≤ 10
unfolding decimal
decimal_short x = digits_short 10 x []

-- the first is no zero if x is none
digits_lead : (n x : ℕ) (behind : List ℕ) → x < 10 ^ n → 1 ≤ x → get_or (digits_before n x behind) 0 0 ≡ 48 → ⊥
unfolding digits_before
digits_lead zero x behind h some = absurd (omega arith)
digits_lead (suc n) x behind h some =
    turn x behind (λ s. get_or s 0 0 ≡ 48 → ⊥) n (λ l e. omega arith)
    (λ l. digits_lead n (x / 10) (digit (x % 10) ∷ behind) (omega arith) (omega arith))

pub decimal_is : (x : ℕ) → x < 10 ^ 10 → Decimal x (decimal x)
unfolding decimal digits_before value_behind
decimal_is x h = record {
  says = digits_say 10 x [] h;
  digits = digits_digits 10 x [] (λ b m. absurd (Memᴰ.not-nil m));
  some = digits_some 9 x [];
  short = decimal_short x;
  leading = go (ℕ_discrete x 0);
}
  where
    go : Dec (x ≡ 0) → get_or (digits_before 10 x []) 0 0 ≡ 48 → digits_before 10 x [] ≡ 48 ∷ []
    go (yes e) z = rw e
    go (no ne) z = absurd (digits_lead 10 x [] h (omega arith) z)
