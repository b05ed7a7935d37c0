-- Numbers of 16 bytes as four words of 32 bits: read, and written.
use mathlib.Core.Path.{◌≡◌, sym, ◌∙◌}
use mathlib.Core.List.{List, ◌++◌, append_assoc}
use Prim.Native.Nat.{ℕ, ◌+◌, ◌*◌, ◌/◌, ◌%◌, ◌^◌, ◌≤◌, ◌<◌}
use native.Mathlib.Omega.{arith}
use lib.ListN.{length, take, drop, replicate, length-drop}
use lib.Seq.{take-add, drop-drop, length-take-le}
use Rattle.lists.specs.Buffer.{pasted}
use Rattle.little_endian.specs.LittleEndian.{little_endian, little_bytes}
use Rattle.little_endian.proofs.LittleEndian.{little_append, little_bytes_append, little_bytes_mod}
use Rattle.little_endian.proofs.Words.{words_put}

-- the first word of bytes, and the rest
word_first : (m : ℕ) (s : List ℕ) → 4 ≤ length s → little_endian (take (4 + m) s) ≡ little_endian (take 4 s) + 2 ^ 32 * little_endian (take m (drop 4 s))
word_first m s h = rw (take-add 4 m s, little_append, length-take-le 4 s h)

word_next : (m at : ℕ) (s : List ℕ) → at + 4 ≤ length s
    → little_endian (take (4 + m) (drop at s)) ≡ little_endian (take 4 (drop at s)) + 2 ^ 32 * little_endian (take m (drop (at + 4) s))
word_next m at s h = word_first m (drop at s) (omega (arith, length-drop at s)) ∙ rw (drop-drop 4 at s)

-- 16 bytes from a place on
pub four_words : (s : List ℕ) (at : ℕ) → at + 16 ≤ length s
    → little_endian (take 4 (drop at s))
    + 2 ^ 32 * (little_endian (take 4 (drop (at + 4) s)) + 2 ^ 32 * (little_endian (take 4 (drop (at + 8) s)) + 2 ^ 32 * little_endian (take 4 (drop (at + 12) s))))
    ≡ little_endian (take 16 (drop at s))
four_words s at h =
    let e8 : at + 4 + 4 ≡ at + 8 = omega arith in
    let e12 : at + 8 + 4 ≡ at + 12 = omega arith in
    sym (word_next 12 at s (omega arith)
    ∙ rw (word_next 8 (at + 4) s (omega arith), e8, word_next 4 (at + 8) s (omega arith), e12))

-- the bytes of the first word, and of the rest
bytes_first : (m w x : ℕ) → w < 2 ^ 32 → little_bytes (4 + m) (w + 2 ^ 32 * x) ≡ little_bytes 4 w ++ little_bytes m x
bytes_first m w x h =
    let low : (w + 2 ^ 32 * x) % 2 ^ 32 ≡ w = omega arith in
    let high : (w + 2 ^ 32 * x) / 2 ^ 32 ≡ x = omega arith in
    little_bytes_append 4 m (w + 2 ^ 32 * x) ∙ rw (little_bytes_mod 4 (w + 2 ^ 32 * x), low, high)

-- four words written into 16 bytes
pub words_written : (a b c d : ℕ) {s₁ s₂ s₃ s₄ : List ℕ} → a < 2 ^ 32 → b < 2 ^ 32 → c < 2 ^ 32
    → s₁ ≡ pasted (replicate 16 0) 0 (little_bytes 4 a) → s₂ ≡ pasted s₁ 4 (little_bytes 4 b)
    → s₃ ≡ pasted s₂ 8 (little_bytes 4 c) → s₄ ≡ pasted s₃ 12 (little_bytes 4 d)
    → s₄ ≡ little_bytes 16 (a + 2 ^ 32 * (b + 2 ^ 32 * (c + 2 ^ 32 * d)))
words_written a b c d ha hb hc e₁ e₂ e₃ e₄ =
    let joined : little_bytes 4 a ++ little_bytes 4 b ++ little_bytes 4 c ++ little_bytes 4 d
    ≡ little_bytes 4 a ++ (little_bytes 4 b ++ (little_bytes 4 c ++ little_bytes 4 d)) = simp append_assoc in
    let all : little_bytes 16 (a + 2 ^ 32 * (b + 2 ^ 32 * (c + 2 ^ 32 * d))) ≡ little_bytes 4 a ++ (little_bytes 4 b ++ (little_bytes 4 c ++ little_bytes 4 d)) =
    bytes_first 12 a (b + 2 ^ 32 * (c + 2 ^ 32 * d)) ha ∙ rw (bytes_first 8 b (c + 2 ^ 32 * d) hb, bytes_first 4 c d hc)
    in
    words_put a b c d e₁ e₂ e₃ e₄ ∙ joined ∙ sym all
