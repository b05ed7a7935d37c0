-- 22 and 23 in words (02, Ask 2).
use Rattle.std.specs.Prelude.{ℕ, ◌≤◌, ◌<◌, List, ◌≢◌, ◌⊎◌, ◌≡◌, length}
use Rattle.format.specs.Bytes.{bytes_at}
use Rattle.format.specs.Marks.{SM}

-- 22 when opening: "sealed file under 38 or over 32,806 bytes, without `SM`"
pub data NotSealed (file : List ℕ) : Type 0 where
  short : length file < 38 → NotSealed file
  long : 32806 < length file → NotSealed file
  no_mark : bytes_at file 0 2 ≢ SM → NotSealed file

-- a file that is none of these
pub record Sealed (file : List ℕ) : Type 0 where
  pub enough : 38 ≤ length file
  pub few : length file ≤ 32806
  pub mark : bytes_at file 0 2 ≡ SM

-- 22 when sealing: "text too long, or nonce not 12 bytes"
abbrev pub NoText : (nonce text : List ℕ) → Type 0
NoText nonce text = (length nonce ≢ 12) ⊎ (32768 < length text)
