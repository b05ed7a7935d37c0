-- The bounds that the words keep from step to step.
use Prim.Native.Nat.{ℕ, ◌+◌, ◌*◌, ◌/◌, ◌^◌, ◌≤◌, ◌<◌}
use native.Mathlib.Nat.{mul-le-mul}
use native.Mathlib.Omega.{arith}
use Rattle.poly1305_limbs.specs.declared.Accumulator.{Accumulator}
use Rattle.poly1305_limbs.specs.declared.Words.{Words}
use Rattle.poly1305_limbs.specs.Limbs.{Narrow, Reduced}
use Rattle.poly1305_limbs.specs.Columns.{Wide, Carriable, Whole, plus, raised, carried, folded, quotient}

-- a product that leaves room for the sum of five such
pub product_small : (x y : ℕ) → x < 2 ^ 33 → y ≤ 335544320 → x * y ≤ 2882303761517117440
product_small x y h k = let l : x ≤ 8589934592 = omega arith in mul-le-mul l k

pub products_small : (h : Accumulator) (y0 y1 y2 y3 y4 : ℕ)
    → Wide h × (y0 ≤ 335544320) × (y1 ≤ 335544320) × (y2 ≤ 335544320) × (y3 ≤ 335544320) × (y4 ≤ 335544320)
    → (h.h0 * y0 ≤ 2882303761517117440) × (h.h1 * y1 ≤ 2882303761517117440) × (h.h2 * y2 ≤ 2882303761517117440)
    × (h.h3 * y3 ≤ 2882303761517117440) × (h.h4 * y4 ≤ 2882303761517117440)
products_small h y0 y1 y2 y3 y4 (p, k0, k1, k2, k3, k4) = (
  product_small h.h0 y0 p.h0_wide k0,
  product_small h.h1 y1 p.h1_wide k1,
  product_small h.h2 y2 p.h2_wide k2,
  product_small h.h3 y3 p.h3_wide k3,
  product_small h.h4 y4 (omega (arith, p.h4_wide)) k4,
)

-- the top's product
pub top_small : (x y : ℕ) → x ≤ 5 → y < 2 ^ 28 → x * y ≤ 1342177280
top_small x y h k = let l : y ≤ 268435456 = omega arith in mul-le-mul h l

pub plus_wide : {h : Accumulator} {n : Words} {high : ℕ} → Reduced h → Narrow n → high ≤ 1 → Wide (plus h n high)
unfolding plus
plus_wide p q l = omega arith

pub reduced_wide : {h : Accumulator} → Reduced h → Wide h
reduced_wide p = omega arith

pub reduced_whole : {h : Accumulator} → Reduced h → Whole h
reduced_whole p = omega arith

pub raised_carriable : {h : Accumulator} {x : ℕ} → Wide h → x ≤ 5 → Carriable (raised h x)
unfolding raised
raised_carriable p l = omega arith

pub folded_carriable : {d : Accumulator} → Whole d → Carriable (folded d)
unfolding folded
folded_carriable p = omega arith

-- a carry is a word, and the sum with it fits
carry_small : (a : ℕ) → a < 2 ^ 64 → a / 2 ^ 32 < 2 ^ 32
carry_small a h = omega arith

pub carried_whole : {d : Accumulator} → Carriable d → Whole (carried d)
unfolding carried
carried_whole {d} p =
    let l1 : d.h1 + d.h0 / 2 ^ 32 < 2 ^ 64 = omega (arith, carry_small d.h0 p.h0_fits) in
    let l2 : d.h2 + (d.h1 + d.h0 / 2 ^ 32) / 2 ^ 32 < 2 ^ 64 = omega (arith, carry_small (d.h1 + d.h0 / 2 ^ 32) l1) in
    let e3 = d.h3 + (d.h2 + (d.h1 + d.h0 / 2 ^ 32) / 2 ^ 32) / 2 ^ 32 in
    let l3 : e3 < 2 ^ 64 = omega (arith, carry_small (d.h2 + (d.h1 + d.h0 / 2 ^ 32) / 2 ^ 32) l2) in
    record {
      h0_whole = omega arith;
      h1_whole = omega arith;
      h2_whole = omega arith;
      h3_whole = omega arith;
      h4_whole = omega (arith, carry_small e3 l3, p.h4_fits);
    }

-- from words that are whole, but for the first one, the top gets at most 1
one_carry : (a c : ℕ) → a < 2 ^ 32 → c < 2 ^ 32 → (a + c) / 2 ^ 32 ≤ 1
one_carry a c h k = omega arith

at_most_one : (a c : ℕ) → c ≤ 1 → a + c ≤ a + 1
at_most_one a c h = omega arith

pub carried_top : (d : Accumulator) → d.h0 < 2 ^ 64 → d.h1 < 2 ^ 32 → d.h2 < 2 ^ 32 → d.h3 < 2 ^ 32 → (carried d).h4 ≤ d.h4 + 1
unfolding carried
carried_top d k0 k1 k2 k3 =
    let e1 = d.h1 + d.h0 / 2 ^ 32 in
    let e2 = d.h2 + e1 / 2 ^ 32 in
    let e3 = d.h3 + e2 / 2 ^ 32 in
    let l1 : e1 / 2 ^ 32 ≤ 1 = one_carry d.h1 (d.h0 / 2 ^ 32) k1 (carry_small d.h0 k0) in
    let l2 : e2 / 2 ^ 32 ≤ 1 = one_carry d.h2 (e1 / 2 ^ 32) k2 (omega (arith, l1)) in
    let l3 : e3 / 2 ^ 32 ≤ 1 = one_carry d.h3 (e2 / 2 ^ 32) k3 (omega (arith, l2)) in
    at_most_one d.h4 (e3 / 2 ^ 32) l3

-- after the second carries the accumulator is as before the block
pub step_reduced : (d : Accumulator) → Whole d → Reduced (carried (folded d))
unfolding folded
step_reduced d p =
    let f = folded d in
    let w = carried_whole (folded_carriable p) in
    let t = carried_top f (omega arith) p.h1_whole p.h2_whole p.h3_whole in
    record { h0_small = w.h0_whole; h1_small = w.h1_whole; h2_small = w.h2_whole; h3_small = w.h3_whole; h4_small = omega (arith, t) }

pub quotient_small : (h : Accumulator) → Reduced h → quotient h ≤ 1
unfolding quotient raised
quotient_small h p =
    let t = carried_top (raised h 5) (omega arith) p.h1_small p.h2_small p.h3_small in
    omega (arith, t, p.h4_small)
