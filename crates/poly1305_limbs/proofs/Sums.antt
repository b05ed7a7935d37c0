-- Numbers in a base B, and their remainders: over any base, so that no large number is computed.
use mathlib.Core.Path.{◌≡◌, refl, ap, sym, ◌∙◌}
use Prim.Native.Nat.{ℕ, zero, suc, ◌+◌, ◌-◌, ◌*◌, ◌/◌, ◌%◌, ◌≤◌, ◌<◌}
use native.Mathlib.Nat.{mod-add-div, mod-add-div', add-mul-mod_self_right, mul-le-mul_left, mul-le-mul_right, mod-eq_of_lt, mod-eq-sub-mod}
use native.Mathlib.Omega.{arith}

-- five digits
unfoldable pub five : (B a b c d e : ℕ) → ℕ
five B a b c d e = a + B * (b + B * (c + B * (d + B * e)))

-- digit by digit: sums and equations
plus_five : (B a b c d e a' b' c' d' e' : ℕ) → five B a b c d e + five B a' b' c' d' e' ≡ five B (a + a') (b + b') (c + c') (d + d') (e + e')
unfolding five
plus_five B a b c d e a' b' c' d' e' = omega arith

-- a number of four digits and a multiple of B ^ 4 added, and a small number added
pub plus_digits : (B N a b c d e a' b' c' d' e' : ℕ) → N ≡ B * (B * (B * B))
    → five B (a + a') (b + b') (c + c') (d + d') (e + e') ≡ five B a b c d e + (a' + B * (b' + B * (c' + B * d')) + N * e')
unfolding five
plus_digits B N a b c d e a' b' c' d' e' p = rw p (omega arith)

pub raise_digit : (B a b c d e x : ℕ) → five B (a + x) b c d e ≡ five B a b c d e + x
unfolding five
raise_digit B a b c d e x = omega arith

same_five : (B : ℕ) {a b c d e a' b' c' d' e' : ℕ} → a ≡ a' → b ≡ b' → c ≡ c' → d ≡ d' → e ≡ e' → five B a b c d e ≡ five B a' b' c' d' e'
same_five B p q r s t = cc

-- a product with a number of four digits, digit by digit
spread : (B x r s t u : ℕ) → x * (r + B * (s + B * (t + B * u))) ≡ x * r + B * (x * s) + (B * (B * (x * t)) + B * (B * (B * (x * u))))
spread B x r s t u = omega arith

-- one digit carried
carry : (B a x y : ℕ) → a % B + B * (x + a / B + y) ≡ a + B * (x + y)
carry B a x y = omega (arith, mod-add-div a B)

carry_last : (B a x : ℕ) → a % B + B * (x + a / B) ≡ a + B * x
carry_last B a x = omega (arith, mod-add-div a B)

-- carries change no number
pub carries : (B a b c d e : ℕ)
    → let b' = b + a / B in let c' = c + b' / B in let d' = d + c' / B in
    five B (a % B) (b' % B) (c' % B) (d' % B) (e + d' / B) ≡ five B a b c d e
unfolding five
carries B a b c d e =
    let b' = b + a / B in
    let c' = c + b' / B in
    let d' = d + c' / B in
    ap (λ (z : ℕ). a % B + B * (b' % B + B * (c' % B + B * z))) (carry_last B d' e)
    ∙ ap (λ (z : ℕ). a % B + B * (b' % B + B * z)) (carry B c' d (B * e))
    ∙ ap (λ (z : ℕ). a % B + B * z) (carry B b' c (B * (d + B * e)))
    ∙ carry B a b (B * (c + B * (d + B * e)))

-- a multiple of p changes no remainder
pub same_mod : (p a b k : ℕ) → a ≡ b + k * p → a % p ≡ b % p
same_mod p a b k e = ap (λ (z : ℕ). z % p) e ∙ add-mul-mod_self_right b k p

-- four digits and a multiple of B ^ 4
pub four_digits : (B N a b c d e : ℕ) → N ≡ B * (B * (B * B)) → five B a b c d e ≡ a + B * (b + B * (c + B * d)) + e * N
unfolding five
four_digits B N a b c d e p = rw p (omega arith)

digit_below : (B M a y : ℕ) → a < B → y < M → a + B * y < B * M
digit_below B M a y h k = omega (arith, mul-le-mul_left B k)

pub four_below : (B a b c d : ℕ) → a < B → b < B → c < B → d < B → a + B * (b + B * (c + B * d)) < B * (B * (B * B))
four_below B a b c d h i j k =
    digit_below B (B * (B * B)) a (b + B * (c + B * d)) h (digit_below B (B * B) b (c + B * d) i (digit_below B B c d j k))

-- a number below 5 * N, where 4 * N is p and 5: the bits above 4 * N of the number and 5 say whether p is in it
pub once : (N p x l q m : ℕ) → 4 * N ≡ p + 5 → 10 ≤ 3 * N → x + 5 ≡ l + (4 * q + m) * N → l < N → m < 4 → x < 5 * N → q ≤ 1 → x % p + q * p ≡ x
once N p x l zero m e big f h k below small =
    let n : m * N ≤ 3 * N = mul-le-mul_right N (omega arith) in
    let o : x < p = omega (arith, n) in
    rw (mod-eq_of_lt o) (omega arith)
once N p x l (suc zero) m e big f h k below small =
    let o : p ≤ x = omega arith in
    let r : x - p < p = omega arith in
    rw (mod-eq-sub-mod o, mod-eq_of_lt r) (omega arith)
once N p x l (suc (suc q)) m e big f h k below small = absurd (omega arith)

-- p as often as it is in x taken away, and s added, modulo N
pub tag_mod : (N p x s q r t : ℕ) → 4 * N ≡ p + 5 → x % p + q * p ≡ x → x + s + 5 * q ≡ r + t * N → r < N → r ≡ (x % p + s) % N
tag_mod N p x s q r t e f g h =
    let k : q * (4 * N) ≡ q * (p + 5) = ap (λ (z : ℕ). q * z) e in
    let y = x % p in
    let sum : y + s + 4 * q * N ≡ r + t * N = omega arith in
    sym (mod-eq_of_lt h) ∙ sym (same_mod N (r + t * N) r t refl) ∙ same_mod N (r + t * N) (y + s) (4 * q) (sym sum)

-- the accumulator may be reduced before a block is added
pub mod_step : (p x n r : ℕ) → (x + n) * r % p ≡ (x % p + n) * r % p
mod_step p x n r = same_mod p ((x + n) * r) ((x % p + n) * r) (x / p * r) (ap (λ (z : ℕ). (z + n) * r) (sym (mod-add-div' x p)) ∙ omega arith)

module _ (B P : ℕ) (e : 4 * (B * (B * (B * B))) ≡ P + 5) where
  -- the bits above 4 * B ^ 4 come back five times
  pub folding : (a b c d q m : ℕ) → five B a b c d (4 * q + m) ≡ five B (a + q * 5) b c d m + q * P
  unfolding five
  folding a b c d q m = omega (arith, ap (λ (z : ℕ). q * z) e)

  -- a multiple of 4 as the last digit comes back as a first digit, and as a second one when all digits move up
  last : (a b c d f t : ℕ) → five B a b c d (f * (4 * t)) ≡ five B (a + f * (t * 5)) b c d 0 + f * t * P
  unfolding five
  last a b c d f t = omega (arith, ap (λ (z : ℕ). f * t * z) e)

  move : (a b c d f t : ℕ) → B * five B a b c d (f * (4 * t)) ≡ five B 0 (a + f * (t * 5)) b c d + B * (f * t) * P
  unfolding five
  move a b c d f t = omega (arith, ap (λ (z : ℕ). B * (f * t) * z) e)

  -- equations up to multiples of P in a row
  next : (x y z k l : ℕ) → x ≡ y + k * P → B * y ≡ z + l * P → B * x ≡ z + (B * k + l) * P
  next x y z k l p q = ap (λ (w : ℕ). B * w) p ∙ omega arith

  then : (x y z k l : ℕ) → x ≡ y + k * P → y ≡ z + l * P → x ≡ z + (k + l) * P
  then x y z k l p q = omega arith

  four : (x0 x1 x2 x3 k1 k2 k3 : ℕ) {y0 y1 y2 y3 : ℕ} → y0 ≡ x0 → y1 ≡ x1 + k1 * P → y2 ≡ x2 + k2 * P → y3 ≡ x3 + k3 * P
      → y0 + y1 + (y2 + y3) ≡ x0 + x1 + (x2 + x3) + (k1 + (k2 + k3)) * P
  four x0 x1 x2 x3 k1 k2 k3 e0 e1 e2 e3 = omega arith

  module _ (a b c d f : ℕ) where
    -- the number times a digit
    times : (r : ℕ) → five B a b c d f * r ≡ five B (a * r) (b * r) (c * r) (d * r) (f * r)
    unfolding five
    times r = omega arith

    -- the number times a multiple of 4, moved up once, twice and three times
    moved1 : (t : ℕ) → B * (five B a b c d f * (4 * t)) ≡ five B 0 (a * (4 * t) + f * (t * 5)) (b * (4 * t)) (c * (4 * t)) (d * (4 * t)) + B * (f * t) * P
    moved1 t = ap (λ (z : ℕ). B * z) (times (4 * t)) ∙ move (a * (4 * t)) (b * (4 * t)) (c * (4 * t)) (d * (4 * t)) f t

    moved2 : (t : ℕ)
        → B * (B * (five B a b c d f * (4 * t)))
        ≡ five B 0 (0 + d * (t * 5)) (a * (4 * t) + f * (t * 5)) (b * (4 * t)) (c * (4 * t)) + (B * (B * (f * t)) + B * (d * t)) * P
    moved2 t = next _ _ _ (B * (f * t)) (B * (d * t)) (moved1 t) (move 0 (a * (4 * t) + f * (t * 5)) (b * (4 * t)) (c * (4 * t)) d t)

    moved3 : (t : ℕ)
        → B * (B * (B * (five B a b c d f * (4 * t))))
        ≡ five B 0 (0 + c * (t * 5)) (0 + d * (t * 5)) (a * (4 * t) + f * (t * 5)) (b * (4 * t))
        + (B * (B * (B * (f * t)) + B * (d * t)) + B * (c * t)) * P
    moved3 t =
        next _ _ _ (B * (B * (f * t)) + B * (d * t)) (B * (c * t)) (moved2 t) (move 0 (0 + d * (t * 5)) (a * (4 * t) + f * (t * 5)) (b * (4 * t)) c t)

    -- and the last digit brought back: the rows of the product
    row1 : (t : ℕ)
        → B * (five B a b c d f * (4 * t)) ≡ five B (0 + d * (t * 5)) (a * (4 * t) + f * (t * 5)) (b * (4 * t)) (c * (4 * t)) 0 + (B * (f * t) + d * t) * P
    row1 t = then _ _ _ (B * (f * t)) (d * t) (moved1 t) (last 0 (a * (4 * t) + f * (t * 5)) (b * (4 * t)) (c * (4 * t)) d t)

    row2 : (t : ℕ)
        → B * (B * (five B a b c d f * (4 * t)))
        ≡ five B (0 + c * (t * 5)) (0 + d * (t * 5)) (a * (4 * t) + f * (t * 5)) (b * (4 * t)) 0
        + (B * (B * (f * t)) + B * (d * t) + c * t) * P
    row2 t = then _ _ _ (B * (B * (f * t)) + B * (d * t)) (c * t) (moved2 t) (last 0 (0 + d * (t * 5)) (a * (4 * t) + f * (t * 5)) (b * (4 * t)) c t)

    row3 : (t : ℕ)
        → B * (B * (B * (five B a b c d f * (4 * t))))
        ≡ five B (0 + b * (t * 5)) (0 + c * (t * 5)) (0 + d * (t * 5)) (a * (4 * t) + f * (t * 5)) 0
        + (B * (B * (B * (f * t)) + B * (d * t)) + B * (c * t) + b * t) * P
    row3 t =
        then _ _ _ (B * (B * (B * (f * t)) + B * (d * t)) + B * (c * t)) (b * t) (moved3 t)
        (last 0 (0 + c * (t * 5)) (0 + d * (t * 5)) (a * (4 * t) + f * (t * 5)) b t)

    -- the product, by columns
    pub columns : (r t u v : ℕ)
        → five B a b c d f * (r + B * (4 * t + B * (4 * u + B * (4 * v)))) % P
        ≡ five B (a * r + b * (v * 5) + c * (u * 5) + d * (t * 5) + f * 0) (a * (4 * t) + b * r + c * (v * 5) + d * (u * 5) + f * (t * 5))
        (a * (4 * u) + b * (4 * t) + c * r + d * (v * 5) + f * (u * 5)) (a * (4 * v) + b * (4 * u) + c * (4 * t) + d * r + f * (v * 5)) (f * r)
        % P
    columns r t u v =
        let k1 = B * (f * t) + d * t in
        let k2 = B * (B * (f * u)) + B * (d * u) + c * u in
        let k3 = B * (B * (B * (f * v)) + B * (d * v)) + B * (c * v) + b * v in
        let x0 = five B (a * r) (b * r) (c * r) (d * r) (f * r) in
        let x1 = five B (0 + d * (t * 5)) (a * (4 * t) + f * (t * 5)) (b * (4 * t)) (c * (4 * t)) 0 in
        let x2 = five B (0 + c * (u * 5)) (0 + d * (u * 5)) (a * (4 * u) + f * (u * 5)) (b * (4 * u)) 0 in
        let x3 = five B (0 + b * (v * 5)) (0 + c * (v * 5)) (0 + d * (v * 5)) (a * (4 * v) + f * (v * 5)) 0 in
        let sum : x0 + x1 + (x2 + x3)
        ≡ five B (a * r + b * (v * 5) + c * (u * 5) + d * (t * 5) + f * 0) (a * (4 * t) + b * r + c * (v * 5) + d * (u * 5) + f * (t * 5))
        (a * (4 * u) + b * (4 * t) + c * r + d * (v * 5) + f * (u * 5)) (a * (4 * v) + b * (4 * u) + c * (4 * t) + d * r + f * (v * 5)) (f * r) =
        simp plus_five (same_five B (omega arith) (omega arith) (omega arith) (omega arith) (omega arith))
        in
        same_mod P _ _ (k1 + (k2 + k3))
        (spread B (five B a b c d f) r (4 * t) (4 * u) (4 * v) ∙ four x0 x1 x2 x3 k1 k2 k3 (times r) (row1 t) (row2 u) (row3 v) ∙ ap (λ (z : ℕ). z + (k1 + (k2 + k3)) * P) sum)
