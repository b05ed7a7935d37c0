-- The operations on 32-bit words that SHA-256 is made of (FIPS 180-4, sections 2.2.2, 3.2 and 4.1.2). A word is a number below 2 ^ 32.
use Rattle.std.specs.Prelude.{ℕ, ◌+◌, ◌-◌, ◌*◌, ◌/◌, ◌%◌, ◌^◌, bit_and, bit_or, bit_xor}

-- x + y modulo 2 ^ 32 (section 3.2, 1)
abbrev pub add : ℕ → ℕ → ℕ
add x y = (x + y) % 2 ^ 32

-- the bits of x the other way round (section 2.2.2, ¬)
abbrev pub complement : ℕ → ℕ
complement x = 2 ^ 32 - 1 - x

-- SHR: x moved right by n places (section 3.2, 3)
abbrev pub shr : ℕ → ℕ → ℕ
shr n x = x / 2 ^ n

-- ROTR: x turned right by n places (section 3.2, 4)
unfoldable pub rotr : ℕ → ℕ → ℕ
rotr n x = bit_or (x / 2 ^ n) (x * 2 ^ (32 - n) % 2 ^ 32)

-- Ch (4.2)
abbrev pub ch : ℕ → ℕ → ℕ → ℕ
ch x y z = bit_xor (bit_and x y) (bit_and (complement x) z)

-- Maj (4.3)
abbrev pub maj : ℕ → ℕ → ℕ → ℕ
maj x y z = bit_xor (bit_xor (bit_and x y) (bit_and x z)) (bit_and y z)

-- Σ0 (4.4)
unfoldable pub big_sigma0 : ℕ → ℕ
big_sigma0 x = bit_xor (bit_xor (rotr 2 x) (rotr 13 x)) (rotr 22 x)

-- Σ1 (4.5)
unfoldable pub big_sigma1 : ℕ → ℕ
big_sigma1 x = bit_xor (bit_xor (rotr 6 x) (rotr 11 x)) (rotr 25 x)

-- σ0 (4.6)
unfoldable pub small_sigma0 : ℕ → ℕ
small_sigma0 x = bit_xor (bit_xor (rotr 7 x) (rotr 18 x)) (shr 3 x)

-- σ1 (4.7)
unfoldable pub small_sigma1 : ℕ → ℕ
small_sigma1 x = bit_xor (bit_xor (rotr 17 x) (rotr 19 x)) (shr 10 x)
