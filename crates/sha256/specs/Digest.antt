-- The answer of the public operation `sha256`.
use Rattle.std.specs.Prelude.{cond, List, ℕ, ltb, length, replicate}
use Rattle.sha256.specs.Sha256.{hash}
use Rattle.sha256.specs.declared.Digest.{Digest}

-- the longest key or message that is taken
abbrev pub limit : ℕ
limit = 65536

-- a digest that was made
abbrev pub made : List ℕ → Digest
made bytes = record { refusal = 0; bytes = bytes }

-- refusal 21, with 32 zero bytes
abbrev pub too_long : Digest
too_long = record { refusal = 21; bytes = replicate 32 0 }

-- above the limit it is refused, else it is hashed
unfoldable pub sha256_of : List ℕ → Digest
sha256_of message = cond (ltb limit (length message)) too_long (made (hash message))
