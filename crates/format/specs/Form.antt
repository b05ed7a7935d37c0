-- The form of a name in words (01, "The policy file"): "each byte is a capital letter A to Z, a digit or, at the end only,
-- a padding space; at least one is no space". `well_formed` is the test for it.
use Rattle.std.specs.Prelude.{ℕ, ◌≤◌, ◌<◌, List, ◌≡◌, length, get_or}

-- a capital letter A to Z or a digit, in ASCII
pub data Sign (b : ℕ) : Type 0 where
  letter : 65 ≤ b → b ≤ 90 → Sign b
  digit : 48 ≤ b → b ≤ 57 → Sign b

-- at least one sign from the name's start on, then spaces to its end
pub record NameForm (name : List ℕ) : Type 0 where
  pub signs : ℕ
  pub some : 0 < signs
  pub within : signs ≤ length name
  pub sign : (i : ℕ) → i < signs → Sign (get_or name i 0)
  pub space : (i : ℕ) → signs ≤ i → i < length name → get_or name i 0 ≡ 32
