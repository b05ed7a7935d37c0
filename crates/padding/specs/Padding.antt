-- The padding of a message of bytes (FIPS 180-4, section 5.1.1), and the bytes of a word (section 3.1).
use Rattle.std.specs.Prelude.{List, [], ◌∷◌, ◌++◌, ℕ, ◌-◌, ◌*◌, ◌/◌, ◌%◌, ◌^◌, replicate}

-- the four bytes of a word, most significant first (section 3.1)
unfoldable pub word_bytes : ℕ → List ℕ
word_bytes x = x / 2 ^ 24 % 256 ∷ x / 2 ^ 16 % 256 ∷ x / 2 ^ 8 % 256 ∷ x % 256 ∷ []

-- the length in bits of a message of n bytes, as a 64-bit block (section 5.1.1)
unfoldable pub length_block : ℕ → List ℕ
length_block n = let bits = n * 8 % 2 ^ 64 in word_bytes (bits / 2 ^ 32) ++ word_bytes (bits % 2 ^ 32)

-- how many zero bytes follow the byte 0x80, which holds the bit 1 and seven zero bits: the fewest that leave 8 bytes to the end
-- of a 64-byte block (section 5.1.1: the smallest solution of l + 1 + k ≡ 448 mod 512, in bytes)
abbrev pub zero_bytes : ℕ → ℕ
zero_bytes n = (119 - n % 64) % 64

-- what is appended to a message of n bytes (section 5.1.1)
unfoldable pub padding : ℕ → List ℕ
padding n = 0x80 ∷ (replicate (zero_bytes n) 0 ++ length_block n)
