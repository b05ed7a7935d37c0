-- The answers of `seal` in words (02, Ask 2): the policy's own refusals, 13, 15, 22, 16. Each holds only when it is reached: the rows before it have passed.
use Rattle.std.specs.Prelude.{ℕ, ◌+◌, ◌≤◌, ◌<◌, List, ◌≡◌, length}
use Rattle.issuer_answers.specs.Rows.{KeyAnswered}
use Rattle.sealed_file.specs.Rows.{NoText}

-- the text can be sealed: `issuer_key` gives the label's key, the nonce has 12 bytes, and the text is not too long
pub record Seals (policy name root nonce text : List ℕ) : Type 0 where
  pub keyed : KeyAnswered policy name root 0
  pub nonces : length nonce ≡ 12
  pub short : length text ≤ 32768

-- the answers for a buffer of `room` bytes, by their numbers; a sealed file has 38 bytes more than its text
pub data SealAnswered (policy name root nonce text : List ℕ) (room : ℕ) : ℕ → Type 0 where
  keys : {n : ℕ} → 0 < n → KeyAnswered policy name root n → SealAnswered policy name root nonce text room n
  row_22 : KeyAnswered policy name root 0 → NoText nonce text → SealAnswered policy name root nonce text room 22
  row_16 : Seals policy name root nonce text → room < 38 + length text → SealAnswered policy name root nonce text room 16
  written : Seals policy name root nonce text → 38 + length text ≤ room → SealAnswered policy name root nonce text room 0
