-- Laws of numbers as bytes: parts one after the other, bounds, zeros at the end, and there and back.
use mathlib.Core.Path.{◌≡◌, refl, sym, ap, ◌∙◌}
use mathlib.Core.List.{List, [], ◌∷◌, ◌++◌}
use Prim.Native.Nat.{ℕ, zero, suc, ◌+◌, ◌*◌, ◌/◌, ◌%◌, ◌^◌, ◌≤◌, ◌<◌}
use native.Mathlib.Nat.{zero-add, pow-zero, pow-suc, pow-succ', one-le-pow, div-div-eq-div-mul, div-one}
use native.Mathlib.Omega.{arith}
use lib.Arith.{mod-mul}
use lib.ListN.{length, take, drop, get_or, replicate}
use lib.Seq.{drop-cons}
use Rattle.std.specs.Int.{byte_at, bytes_low_first}
use Rattle.little_endian.specs.LittleEndian.{little_endian, little_bytes}

pub little_bytes_length : (n x : ℕ) → length (little_bytes n x) ≡ n
unfolding little_bytes
little_bytes_length zero x = refl
little_bytes_length (suc n) x = ap suc (little_bytes_length n (x / 256))

-- the number of two parts, the lower one first
pub little_append : (a b : List ℕ) → little_endian (a ++ b) ≡ little_endian a + 256 ^ length a * little_endian b
unfolding little_endian
little_append [] b = omega (arith, pow-zero 256)
little_append (x ∷ a) b = rw (pow-succ' 256 (length a)) (omega (arith, little_append a b))

-- the bytes of a number in two parts, the lower one first
pub little_bytes_append : (m n x : ℕ) → little_bytes (m + n) x ≡ little_bytes m x ++ little_bytes n (x / 256 ^ m)
unfolding little_bytes
little_bytes_append zero n x = rw (zero-add, pow-zero, div-one)
little_bytes_append (suc m) n x =
    let e : suc m + n ≡ suc (m + n) = omega arith in
    rw (e, pow-succ' 256 m, ← div-div-eq-div-mul x 256 (256 ^ m)) (ap (λ (s : List ℕ). x % 256 ∷ s) (little_bytes_append m n (x / 256)))

-- bytes give a number that has no more bytes
pub little_bound : (bs : List ℕ) → ((i : ℕ) → i < length bs → get_or bs i 0 < 256) → little_endian bs < 256 ^ length bs
unfolding little_endian
little_bound [] small = omega (arith, pow-zero 256)
little_bound (b ∷ bs) small =
    let rest : little_endian bs < 256 ^ length bs = little_bound bs (λ i l. small (suc i) (omega arith)) in
    let low : b < 256 = small 0 (omega arith) in
    rw (pow-succ' 256 (length bs)) (omega arith)

-- zeros alone, and zeros at the end
zeros_number : (n : ℕ) → little_endian (replicate n 0) ≡ 0
unfolding little_endian
zeros_number zero = refl
zeros_number (suc n) = omega (arith, zeros_number n)

pub little_zeros : (s : List ℕ) (n : ℕ) → little_endian (s ++ replicate n 0) ≡ little_endian s
little_zeros s n = little_append s (replicate n 0) ∙ rw (zeros_number n) (omega arith)

-- the number of the n least significant bytes
pub little_bytes_number : (n x : ℕ) → little_endian (little_bytes n x) ≡ x % 256 ^ n
unfolding little_endian little_bytes
little_bytes_number zero x = rw pow-zero (omega arith)
little_bytes_number (suc n) x =
    rw (pow-suc 256 n, mod-mul x {m = 256 ^ n} {c = 256} (one-le-pow n 256 (omega arith)) (omega arith)) (omega (arith, little_bytes_number n (x / 256)))

-- each of them is a byte
pub little_bytes_small : (n x i : ℕ) → get_or (little_bytes n x) i 0 < 256
unfolding little_bytes
little_bytes_small zero x i = omega arith
little_bytes_small (suc n) x zero = omega arith
little_bytes_small (suc n) x (suc i) = little_bytes_small n (x / 256) i

-- bytes come back from their number
pub little_number_bytes : (bs : List ℕ) → ((i : ℕ) → i < length bs → get_or bs i 0 < 256) → little_bytes (length bs) (little_endian bs) ≡ bs
unfolding little_endian little_bytes
little_number_bytes [] small = refl
little_number_bytes (b ∷ bs) small =
    let low : b < 256 = small 0 (omega arith) in
    let first : (b + 256 * little_endian bs) % 256 ≡ b = omega arith in
    let rest : (b + 256 * little_endian bs) / 256 ≡ little_endian bs = omega arith in
    rw (first, rest) (ap (λ (s : List ℕ). b ∷ s) (little_number_bytes bs (λ i l. small (suc i) (omega arith))))

-- the four bytes from a place on
pub four_at : (s : List ℕ) (at : ℕ) → at + 4 ≤ length s
    → little_endian (take 4 (drop at s)) ≡ get_or s at 0 + get_or s (at + 1) 0 * 0x100 + get_or s (at + 2) 0 * 0x10000 + get_or s (at + 3) 0 * 0x1000000
unfolding little_endian
four_at s at h =
    let one : at + 1 ≡ suc at = omega arith in
    let two : at + 2 ≡ suc (suc at) = omega arith in
    let three : at + 3 ≡ suc (suc (suc at)) = omega arith in
    rw (
      one,
      two,
      three,
      drop-cons s at 0 (omega arith),
      drop-cons s (suc at) 0 (omega arith),
      drop-cons s (suc (suc at)) 0 (omega arith),
      drop-cons s (suc (suc (suc at))) 0 (omega arith),
    ) (omega arith)

-- the bytes of a number are those of its remainder
pub little_bytes_mod : (n x : ℕ) → little_bytes n x ≡ little_bytes n (x % 256 ^ n)
little_bytes_mod n x =
    let bs = little_bytes n x in
    sym (little_number_bytes bs (λ i l. little_bytes_small n x i)) ∙ rw (little_bytes_length n x, little_bytes_number n x)

-- the library's word for the same bytes, which `to_le_bytes` gives
byte_is : (i n : ℕ) → byte_at i n ≡ n / 256 ^ i % 256
byte_is zero n = rw (pow-zero, div-one)
byte_is (suc i) n = refl

low_first : (k i n : ℕ) → bytes_low_first i k n ≡ little_bytes k (n / 256 ^ i)
unfolding little_bytes
low_first zero i n = refl
low_first (suc k) i n = rw (byte_is i n, low_first k (suc i) n, pow-suc 256 i, div-div-eq-div-mul n (256 ^ i) 256)

pub little_bytes_of : (k n : ℕ) → bytes_low_first 0 k n ≡ little_bytes k n
little_bytes_of k n = low_first k 0 n ∙ rw (pow-zero, div-one)
