-- Numbers as words of 32 bits, the least significant first: what the words of the code stand for, and the bounds that they keep.
use Rattle.std.specs.Prelude.{◌≡◌, ℕ, ◌+◌, ◌*◌, ◌%◌, ◌^◌, ◌≤◌, ◌<◌}
use Rattle.poly1305_limbs.specs.declared.Accumulator.{Accumulator}
use Rattle.poly1305_limbs.specs.declared.Multiplier.{Multiplier}
use Rattle.poly1305_limbs.specs.declared.Words.{Words}

-- the number that the five words of an accumulator are
unfoldable pub value : Accumulator → ℕ
value h = h.h0 + 2 ^ 32 * (h.h1 + 2 ^ 32 * (h.h2 + 2 ^ 32 * (h.h3 + 2 ^ 32 * h.h4)))

-- the number that the four words of a multiplier are
unfoldable pub multiplier_value : Multiplier → ℕ
multiplier_value r = r.r0 + 2 ^ 32 * (r.r1 + 2 ^ 32 * (r.r2 + 2 ^ 32 * r.r3))

-- the number that four words are
unfoldable pub words_value : Words → ℕ
words_value n = n.w0 + 2 ^ 32 * (n.w1 + 2 ^ 32 * (n.w2 + 2 ^ 32 * n.w3))

-- four words of 32 bits
pub record Narrow (n : Words) : Type 0 where
  pub w0_small : n.w0 < 2 ^ 32
  pub w1_small : n.w1 < 2 ^ 32
  pub w2_small : n.w2 < 2 ^ 32
  pub w3_small : n.w3 < 2 ^ 32

-- an accumulator between two blocks: words of 32 bits, and the top at most 4, so that the number is below 5 * 2 ^ 128
pub record Reduced (h : Accumulator) : Type 0 where
  pub h0_small : h.h0 < 2 ^ 32
  pub h1_small : h.h1 < 2 ^ 32
  pub h2_small : h.h2 < 2 ^ 32
  pub h3_small : h.h3 < 2 ^ 32
  pub h4_small : h.h4 ≤ 4

-- a clamped multiplier: words of 28 bits, the upper three multiples of 4
pub record Clamped (r : Multiplier) : Type 0 where
  pub r0_small : r.r0 < 2 ^ 28
  pub r1_small : r.r1 < 2 ^ 28
  pub r2_small : r.r2 < 2 ^ 28
  pub r3_small : r.r3 < 2 ^ 28
  pub r1_four : r.r1 % 4 ≡ 0
  pub r2_four : r.r2 % 4 ≡ 0
  pub r3_four : r.r3 % 4 ≡ 0
