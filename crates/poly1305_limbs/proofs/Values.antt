-- The numbers that the words are, from step to step.
use mathlib.Core.Path.{◌≡◌, refl, ap, sym, ◌∙◌}
use Prim.Native.Nat.{ℕ, ◌+◌, ◌*◌, ◌/◌, ◌%◌, ◌^◌, ◌≤◌, ◌<◌}
use native.Mathlib.Nat.{div-add-mod, mod-lt, mul-le-mul_right}
use native.Mathlib.Bridge.{le_by_compare, IsLe}
use native.Mathlib.Omega.{arith}
use Rattle.poly1305_limbs.specs.declared.Accumulator.{Accumulator}
use Rattle.poly1305_limbs.specs.declared.Multiplier.{Multiplier}
use Rattle.poly1305_limbs.specs.declared.Words.{Words}
use Rattle.poly1305_limbs.specs.Prime.{prime}
use Rattle.poly1305_limbs.specs.Limbs.{value, multiplier_value, words_value, Narrow, Reduced, Clamped}
use Rattle.poly1305_limbs.specs.Columns.{Whole, plus, raised, column, product, carried, folded, quotient}
use Rattle.poly1305_limbs.proofs.Sums.{five, carries, folding, columns, same_mod, mod_step, plus_digits, raise_digit, four_digits, four_below, once, tag_mod}
use Rattle.poly1305_limbs.proofs.Bounds.{plus_wide, reduced_wide, reduced_whole, raised_carriable, carried_whole, quotient_small}

-- four times 2 ^ 128 is the prime and 5
prime_and_5 : 4 * 2 ^ 128 ≡ prime + 5
unfolding prime
prime_and_5 = refl

pub value_plus : (h : Accumulator) (n : Words) (high : ℕ) → value (plus h n high) ≡ value h + (words_value n + 2 ^ 128 * high)
unfolding value words_value plus five
value_plus h n high = plus_digits (2 ^ 32) (2 ^ 128) h.h0 h.h1 h.h2 h.h3 h.h4 n.w0 n.w1 n.w2 n.w3 high refl

pub value_raised : (h : Accumulator) (x : ℕ) → value (raised h x) ≡ value h + x
unfolding value raised five
value_raised h x = raise_digit (2 ^ 32) h.h0 h.h1 h.h2 h.h3 h.h4 x

pub value_carried : (d : Accumulator) → value (carried d) ≡ value d
unfolding value carried five
value_carried d = carries (2 ^ 32) d.h0 d.h1 d.h2 d.h3 d.h4

pub value_folded : (d : Accumulator) → value d % prime ≡ value (folded d) % prime
unfolding value folded five
value_folded d =
    same_mod prime (value d) (value (folded d)) (d.h4 / 4)
    (ap (λ (z : ℕ). five (2 ^ 32) d.h0 d.h1 d.h2 d.h3 z) (sym (div-add-mod d.h4 4))
    ∙ folding (2 ^ 32) prime prime_and_5 d.h0 d.h1 d.h2 d.h3 (d.h4 / 4) (d.h4 % 4))

-- the columns of the product, for multiples of 4 and their quarters
by_quarters : (a : Accumulator) (x r1 r2 r3 t u v : ℕ) → r1 ≡ 4 * t → r2 ≡ 4 * u → r3 ≡ 4 * v
    → value a * (x + 2 ^ 32 * (r1 + 2 ^ 32 * (r2 + 2 ^ 32 * r3))) % prime
    ≡ five (2 ^ 32) (column a x (v * 5) (u * 5) (t * 5) 0) (column a r1 x (v * 5) (u * 5) (t * 5)) (column a r2 r1 x (v * 5) (u * 5))
    (column a r3 r2 r1 x (v * 5)) (a.h4 * x)
    % prime
unfolding value column five
by_quarters a x r1 r2 r3 t u v e1 e2 e3 = rw (e1, e2, e3) (columns (2 ^ 32) prime prime_and_5 a.h0 a.h1 a.h2 a.h3 a.h4 x t u v)

pub value_product : (a : Accumulator) (r : Multiplier) → Clamped r → value a * multiplier_value r % prime ≡ value (product a r) % prime
unfolding value multiplier_value product five
value_product a r p =
    let e1 : r.r1 ≡ 4 * (r.r1 / 4) = omega arith in
    let e2 : r.r2 ≡ 4 * (r.r2 / 4) = omega arith in
    let e3 : r.r3 ≡ 4 * (r.r3 / 4) = omega arith in
    by_quarters a r.r0 r.r1 r.r2 r.r3 (r.r1 / 4) (r.r2 / 4) (r.r3 / 4) e1 e2 e3

-- one step
pub value_step : (h : Accumulator) (r : Multiplier) (n : Words) (high : ℕ) → Clamped r
    → value (carried (folded (carried (product (plus h n high) r)))) % prime
    ≡ (value h % prime + (words_value n + 2 ^ 128 * high)) * multiplier_value r % prime
value_step h r n high p =
    let a = plus h n high in
    let d = product a r in
    let m = words_value n + 2 ^ 128 * high in
    ap (λ (z : ℕ). z % prime) (value_carried (folded (carried d)))
    ∙ sym (value_folded (carried d))
    ∙ ap (λ (z : ℕ). z % prime) (value_carried d)
    ∙ sym (value_product a r p)
    ∙ ap (λ (z : ℕ). z * multiplier_value r % prime) (value_plus h n high)
    ∙ mod_step prime (value h) m (multiplier_value r)

-- the four words below the top
unfoldable pub lower : Accumulator → ℕ
lower h = h.h0 + 2 ^ 32 * (h.h1 + 2 ^ 32 * (h.h2 + 2 ^ 32 * h.h3))

with_top : (h : Accumulator) → value h ≡ lower h + h.h4 * 2 ^ 128
unfolding value lower five
with_top h = four_digits (2 ^ 32) (2 ^ 128) h.h0 h.h1 h.h2 h.h3 h.h4 refl

lower_below : (h : Accumulator) → Whole h → lower h < 2 ^ 128
unfolding lower
lower_below h p = four_below (2 ^ 32) h.h0 h.h1 h.h2 h.h3 p.h0_whole p.h1_whole p.h2_whole p.h3_whole

ten : 10 ≤ 3 * 2 ^ 128
unfolding IsLe
ten = le_by_compare 10 (3 * 2 ^ 128) tt

four_positive : 0 < 4
four_positive = omega arith

pub no_top : (x N : ℕ) → x + N * 0 ≡ x
no_top x N = omega arith

below_five : (N x l e : ℕ) → x ≡ l + e * N → l < N → e ≤ 4 → x < 5 * N
below_five N x l e p h k = omega (arith, mul-le-mul_right N k)

-- the number is its remainder and the prime as often as `quotient` says
pub value_quotient : (h : Accumulator) → Reduced h → value h % prime + quotient h * prime ≡ value h
unfolding quotient
value_quotient h p =
    let w = carried (raised h 5) in
    let whole : Whole w = carried_whole (raised_carriable (reduced_wide p) (omega arith)) in
    let e : value h + 5 ≡ lower w + (4 * (w.h4 / 4) + w.h4 % 4) * 2 ^ 128 =
    sym (value_raised h 5) ∙ sym (value_carried (raised h 5)) ∙ with_top w ∙ ap (λ (z : ℕ). lower w + z * 2 ^ 128) (sym (div-add-mod w.h4 4))
    in
    once (2 ^ 128) prime (value h) (lower w) (quotient h) (w.h4 % 4) prime_and_5 ten e (lower_below w whole) (mod-lt w.h4 four_positive)
    (below_five (2 ^ 128) (value h) (lower h) h.h4 (with_top h) (lower_below h (reduced_whole p)) p.h4_small) (quotient_small h p)

-- the end
pub value_finish : (h : Accumulator) (s : Words) → Reduced h → Narrow s
    → lower (carried (raised (plus h s 0) (5 * quotient h))) ≡ (value h % prime + words_value s) % 2 ^ 128
value_finish h s p k =
    let q = quotient h in
    let a = plus h s 0 in
    let d = carried (raised a (5 * q)) in
    let whole : Whole d = carried_whole (raised_carriable (plus_wide p k (omega arith)) (omega (arith, quotient_small h p))) in
    let e : value h + words_value s + 5 * q ≡ lower d + d.h4 * 2 ^ 128 =
    ap (λ (z : ℕ). z + 5 * q) (sym (value_plus h s 0 ∙ ap (λ (z : ℕ). value h + z) (no_top (words_value s) (2 ^ 128))))
    ∙ sym (value_raised a (5 * q)) ∙ sym (value_carried (raised a (5 * q))) ∙ with_top d
    in
    tag_mod (2 ^ 128) prime (value h) (words_value s) q (lower d) d.h4 prime_and_5 (value_quotient h p) e (lower_below d whole)
