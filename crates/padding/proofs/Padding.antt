-- The bytes of a word, and the padding: its length, and the last blocks as they are written.
use mathlib.Core.Path.{◌≡◌, refl, ap, ◌∙◌}
use mathlib.Core.List.{List, [], ◌∷◌, ◌++◌, append_assoc}
use Prim.Native.Nat.{ℕ, ◌+◌, ◌-◌, ◌*◌, ◌/◌, ◌%◌, ◌^◌, ◌<◌}
use native.Mathlib.Omega.{arith}
use lib.ListN.{length, set, take, drop, replicate, length-append, length-replicate}
use Rattle.std.specs.Int.{w64, to_be_bytes}
use Rattle.lists.specs.Buffer.{pasted, zero_filled}
use Rattle.padding.specs.Padding.{word_bytes, length_block, zero_bytes, padding}
use Rattle.lists.proofs.Pasted.{copied, stored_next, pasted_behind, part_copied, zero_filled_length}

pub word_bytes_length : (x : ℕ) → length (word_bytes x) ≡ 4
unfolding word_bytes
word_bytes_length x = refl

-- section 5.1.1 in bits: l + 1 + k is 448 modulo 512, for k zero bits, seven of which stand in the byte 0x80; and k is below 512, so no smaller one is
pub zero_bits : (n : ℕ) → ((8 * n + 1 + (7 + 8 * zero_bytes n)) % 512 ≡ 448) × (7 + 8 * zero_bytes n < 512)
zero_bits n = (omega arith, omega arith)

pub padding_length : (n : ℕ) → length (padding n) ≡ 9 + zero_bytes n
unfolding padding length_block
padding_length n =
    let b = n * 8 % 2 ^ 64 in
    let hi = word_bytes (b / 2 ^ 32) in
    let lo = word_bytes (b % 2 ^ 32) in
    omega (
      arith,
      length-append (replicate {A = ℕ} (zero_bytes n) 0) (hi ++ lo),
      length-append hi lo,
      length-replicate {A = ℕ} (zero_bytes n) 0,
      word_bytes_length (b / 2 ^ 32),
      word_bytes_length (b % 2 ^ 32),
    )

-- eight bytes are the upper word and the lower word
eight_bytes : (n : ℕ) → to_be_bytes w64 n ≡ word_bytes (n / 2 ^ 32) ++ word_bytes (n % 2 ^ 32)
unfolding word_bytes
eight_bytes n =
    let a : n / 256 ^ 7 ≡ n / 2 ^ 32 / 2 ^ 24 = omega arith in
    let b : n / 256 ^ 6 ≡ n / 2 ^ 32 / 2 ^ 16 = omega arith in
    let c : n / 256 ^ 5 ≡ n / 2 ^ 32 / 2 ^ 8 = omega arith in
    let d : n / 256 ^ 3 % 256 ≡ n % 2 ^ 32 / 2 ^ 24 % 256 = omega arith in
    let e : n / 256 ^ 2 % 256 ≡ n % 2 ^ 32 / 2 ^ 16 % 256 = omega arith in
    let f : n / 256 % 256 ≡ n % 2 ^ 32 / 2 ^ 8 % 256 = omega arith in
    let g : n % 256 ≡ n % 2 ^ 32 % 256 = omega arith in
    rw (a, b, c, d, e, f, g)

-- the last blocks: the rest is copied, the byte 0x80 stored after it, and the length written at the end
pub written : (rest front tail : List ℕ) (total end : ℕ) → length rest ≡ total % 64 → end ≡ length rest + 9 + zero_bytes (length rest)
    → front ≡ rest → tail ≡ to_be_bytes w64 (total * 8 % 2 ^ 64)
    → let d = set (front ++ drop (length rest) (replicate 128 0)) (length rest) 0x80 in
    take (end - 8) d ++ (tail ++ drop (end - (end - 8)) (drop (end - 8) d)) ≡ zero_filled 128 (rest ++ padding total)
unfolding padding length_block
written rest front tail total end size at_end_lem e₁ e₂ =
    let bits = total * 8 % 2 ^ 64 in
    let z = zero_bytes total in
    let t = word_bytes (bits / 2 ^ 32) ++ word_bytes (bits % 2 ^ 32) in
    let p = rest ++ (0x80 ∷ []) in
    let d = set (front ++ drop (length rest) (replicate 128 0)) (length rest) 0x80 in
    let lp : length p ≡ length rest + 1 = length-append rest (0x80 ∷ []) in
    let lt : length t ≡ 8 =
    omega (arith, length-append (word_bytes (bits / 2 ^ 32)) (word_bytes (bits % 2 ^ 32)), word_bytes_length (bits / 2 ^ 32), word_bytes_length (bits % 2 ^ 32))
    in
    let stored : d ≡ zero_filled 128 p = rw (e₁, copied 128 rest (omega arith)) (stored_next 128 rest 0x80 (omega arith)) in
    let whole : length d ≡ 128 = rw stored (zero_filled_length 128 p (omega arith)) in
    let k : end - (end - 8) ≡ end - 8 + length t - (end - 8) = omega arith in
    let all : pasted d (end - 8) t ≡ zero_filled 128 (rest ++ padding total) =
    rw stored (pasted_behind 128 p t z (end - 8) (omega arith) (omega arith) ∙ ap (λ (l : List ℕ). zero_filled 128 l) (simp append_assoc))
    in
    rw k (part_copied d (end - 8) t tail (omega arith) (e₂ ∙ eight_bytes bits) ∙ all)
