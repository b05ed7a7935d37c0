-- The clamp of a number, word by word, and what it leaves.
use mathlib.Core.Path.{◌≡◌, sym, ◌∙◌}
use Prim.Native.Nat.{ℕ, ◌+◌, ◌*◌, ◌%◌, ◌^◌, ◌<◌}
use native.Mathlib.Omega.{arith}
use lib.Bits.{bit_and, and_block, and_le_r, and_mod, and_zero_r}
use Rattle.poly1305.specs.Poly1305.{clamp}

-- the lowest word apart
word_apart : (a b r s : ℕ) → r < 2 ^ 32 → s < 2 ^ 32 → bit_and (r + 2 ^ 32 * a) (s + 2 ^ 32 * b) ≡ bit_and r s + 2 ^ 32 * bit_and a b
word_apart a b r s h k =
    let e : r + 2 ^ 32 * a ≡ a * 2 ^ 32 + r = omega arith in
    let f : s + 2 ^ 32 * b ≡ b * 2 ^ 32 + s = omega arith in
    rw (e, f, and_block 32 a b r s h k) (omega arith)

pub clamp_words : (a b c d : ℕ) → a < 2 ^ 32 → b < 2 ^ 32 → c < 2 ^ 32
    → bit_and a 0x0fffffff + 2 ^ 32 * (bit_and b 0x0ffffffc + 2 ^ 32 * (bit_and c 0x0ffffffc + 2 ^ 32 * bit_and d 0x0ffffffc))
    ≡ clamp (a + 2 ^ 32 * (b + 2 ^ 32 * (c + 2 ^ 32 * d)))
unfolding clamp
clamp_words a b c d ha hb hc =
    sym (word_apart (b + 2 ^ 32 * (c + 2 ^ 32 * d)) 0x0ffffffc0ffffffc0ffffffc a 0x0fffffff ha (omega arith)
    ∙ rw (word_apart (c + 2 ^ 32 * d) 0x0ffffffc0ffffffc b 0x0ffffffc hb (omega arith), word_apart d 0x0ffffffc c 0x0ffffffc hc (omega arith)))

-- a masked word has 28 bits, and is a multiple of 4
pub low_small : (a : ℕ) → bit_and a 0x0fffffff < 2 ^ 28
low_small a = omega (arith, and_le_r a 0x0fffffff)

pub high_small : (a : ℕ) → bit_and a 0x0ffffffc < 2 ^ 28
high_small a = omega (arith, and_le_r a 0x0ffffffc)

pub high_four : (a : ℕ) → bit_and a 0x0ffffffc % 4 ≡ 0
high_four a = and_mod a 0x0ffffffc 2 ∙ and_zero_r (a % 4)
