-- "Printed numbers are decimal without leading zeros", in ASCII.
use Rattle.std.specs.Prelude.{ℕ, zero, suc, ◌+◌, ◌/◌, ◌%◌, ◌≤◌, min, cond, ◌≡◌, ltb, length, get_or}
use mathlib.Core.List.{List, [], ◌∷◌, Memᴰ}
use Rattle.format.specs.Digits.{value_of}

-- the sign of a digit
abbrev pub digit : ℕ → ℕ
digit d = 48 + d

-- the digits of x in front of those behind, up to n of them
unfoldable pub digits_before : (n x : ℕ) → List ℕ → List ℕ
digits_before zero x behind = behind
digits_before (suc n) x behind = cond (ltb x 10) (digit x ∷ behind) (digits_before n (x / 10) (digit (x % 10) ∷ behind))

-- a number below 10 ^ 10, so any of 32 bits
unfoldable pub decimal : ℕ → List ℕ
decimal x = digits_before 10 x []

-- "decimal without leading zeros": s says x, has nothing but digits, and opens with a zero only if that is all
pub record Decimal (x : ℕ) (s : List ℕ) : Type 0 where
  pub says : value_of s ≡ x
  pub digits : (b : ℕ) → Memᴰ b s → (48 ≤ b) × (b ≤ 57)
  pub some : 1 ≤ length s
  pub short : length s ≤ 10
  pub leading : get_or s 0 0 ≡ 48 → s ≡ 48 ∷ []

-- a number, or 65,535 if that is less
unfoldable pub capped : ℕ → ℕ
capped x = min x 65535
