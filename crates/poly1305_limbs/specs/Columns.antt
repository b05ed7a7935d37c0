-- How the code computes with the words; what it computes is said in numbers by `step` and `finish`.
use Rattle.std.specs.Prelude.{ℕ, ◌+◌, ◌-◌, ◌*◌, ◌/◌, ◌%◌, ◌^◌, ◌≤◌, ◌<◌}
use Rattle.poly1305_limbs.specs.declared.Accumulator.{Accumulator}
use Rattle.poly1305_limbs.specs.declared.Multiplier.{Multiplier}
use Rattle.poly1305_limbs.specs.declared.Words.{Words}

-- words before they are multiplied
pub record Wide (h : Accumulator) : Type 0 where
  pub h0_wide : h.h0 < 2 ^ 33
  pub h1_wide : h.h1 < 2 ^ 33
  pub h2_wide : h.h2 < 2 ^ 33
  pub h3_wide : h.h3 < 2 ^ 33
  pub h4_wide : h.h4 ≤ 5

-- words before they are carried: each is below 2 ^ 64 with a carry added, and five quarters of the top can be added to the first word
pub record Carriable (h : Accumulator) : Type 0 where
  pub h0_fits : h.h0 < 2 ^ 64
  pub h1_fits : h.h1 < 2 ^ 64 - 2 ^ 32
  pub h2_fits : h.h2 < 2 ^ 64 - 2 ^ 32
  pub h3_fits : h.h3 < 2 ^ 64 - 2 ^ 32
  pub h4_fits : h.h4 < 2 ^ 32

-- words that were carried; the top is left
pub record Whole (h : Accumulator) : Type 0 where
  pub h0_whole : h.h0 < 2 ^ 32
  pub h1_whole : h.h1 < 2 ^ 32
  pub h2_whole : h.h2 < 2 ^ 32
  pub h3_whole : h.h3 < 2 ^ 32
  pub h4_whole : h.h4 < 2 ^ 33

-- the words of a block added
unfoldable pub plus : Accumulator → Words → (high : ℕ) → Accumulator
plus h n high = record { h0 = h.h0 + n.w0; h1 = h.h1 + n.w1; h2 = h.h2 + n.w2; h3 = h.h3 + n.w3; h4 = h.h4 + high }

-- x added to the first word
unfoldable pub raised : Accumulator → (x : ℕ) → Accumulator
raised h x = record { h0 = h.h0 + x; h1 = h.h1; h2 = h.h2; h3 = h.h3; h4 = h.h4 }

-- what a word above 2 ^ 128 comes back as: a quarter of it five times, since 4 * 2 ^ 128 is the prime and 5
abbrev pub back : ℕ → ℕ
back r = r / 4 * 5

-- one column of a product
unfoldable pub column : Accumulator → (y0 y1 y2 y3 y4 : ℕ) → ℕ
column h y0 y1 y2 y3 y4 = h.h0 * y0 + h.h1 * y1 + h.h2 * y2 + h.h3 * y3 + h.h4 * y4

-- the columns of the product, those above 2 ^ 128 brought back
unfoldable pub product : Accumulator → Multiplier → Accumulator
product h r =
    record {
      h0 = column h r.r0 (back r.r3) (back r.r2) (back r.r1) 0;
      h1 = column h r.r1 r.r0 (back r.r3) (back r.r2) (back r.r1);
      h2 = column h r.r2 r.r1 r.r0 (back r.r3) (back r.r2);
      h3 = column h r.r3 r.r2 r.r1 r.r0 (back r.r3);
      h4 = h.h4 * r.r0;
    }

-- the carries from word to word
unfoldable pub carried : Accumulator → Accumulator
carried d =
    let e1 = d.h1 + d.h0 / 2 ^ 32 in
    let e2 = d.h2 + e1 / 2 ^ 32 in
    let e3 = d.h3 + e2 / 2 ^ 32 in
    record { h0 = d.h0 % 2 ^ 32; h1 = e1 % 2 ^ 32; h2 = e2 % 2 ^ 32; h3 = e3 % 2 ^ 32; h4 = d.h4 + e3 / 2 ^ 32 }

-- the bits above 2 ^ 130 brought back
unfoldable pub folded : Accumulator → Accumulator
folded d = record { h0 = d.h0 + back d.h4; h1 = d.h1; h2 = d.h2; h3 = d.h3; h4 = d.h4 % 4 }

-- whether the number is at least the prime: the bits above 2 ^ 130 of the number and 5
unfoldable pub quotient : Accumulator → ℕ
quotient h = (carried (raised h 5)).h4 / 4
