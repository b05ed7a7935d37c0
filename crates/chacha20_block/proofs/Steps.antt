-- The lines of the quarter round, one turn of each loop, the state at the start, and the parts of a block.
use mathlib.Core.Path.{◌≡◌, sym, ap, ◌∙◌}
use mathlib.Core.List.{List, [], ◌∷◌, append-nil}
use Prim.Native.Nat.{ℕ, ◌+◌, ◌*◌, ◌/◌, ◌≤◌, ◌<◌}
use native.Mathlib.Nat.{add-zero}
use native.Mathlib.Numerals.{add-one}
use native.Mathlib.Omega.{arith}
use lib.Bits.{bit_xor}
use lib.ListN.{length, get_or, set, take, drop, length-append, length-take, length-drop, take-append-drop}
use Rattle.lists.specs.Buffer.{pasted, zero_filled}
use Rattle.lists.specs.Tables.{listed, filled, concat_below}
use Rattle.lists.proofs.Pasted.{pasted_one, pasted_adjacent, pasted_next, zero_filled_all}
use Rattle.words.specs.Words.{add}
use Rattle.little_endian.specs.LittleEndian.{little_endian}
use Rattle.chacha20_block.specs.declared.Quarter.{Quarter}
use Rattle.chacha20_block.specs.ChaCha20.{rotl, quarter_round, word, words, started, added, serialized}
use Rattle.chacha20_block.proofs.Lengths.{words_length, concat_even, word_bytes, word_bytes_length}

-- the quarter round by the eight sums and rotations of its four lines, in order
pub quarter_lines : (q : Quarter) (a d c b e h g f : ℕ) → a ≡ add q.a q.b → d ≡ rotl 16 (bit_xor q.d a) → c ≡ add q.c d
    → b ≡ rotl 12 (bit_xor q.b c) → e ≡ add a b → h ≡ rotl 8 (bit_xor d e) → g ≡ add c h → f ≡ rotl 7 (bit_xor b g)
    → record { a = e; b = f; c = g; d = h } ≡ quarter_round q
unfolding quarter_round
quarter_lines q a d c b e h g f e₁ e₂ e₃ e₄ e₅ e₆ e₇ e₈ = rw (e₈, e₇, e₆, e₅, e₄, e₃, e₂, e₁)

-- the sum of the words number i
abbrev pub sum_at : List ℕ → List ℕ → ℕ → ℕ
sum_at s t i = add (get_or s i 0) (get_or t i 0)

pub sums_done : (s t out : List ℕ) (i : ℕ) → i ≡ 16 → out ≡ filled 16 0 (sum_at s t) i → out ≡ added s t
unfolding added
sums_done s t out i h e = e ∙ rw h (append-nil (listed (sum_at s t) 16))

-- the bytes of the first i words are written
abbrev pub written : List ℕ → ℕ → List ℕ
written s i = zero_filled 64 (concat_below (word_bytes s) i)

words_below : (s : List ℕ) (i : ℕ) → length (concat_below (word_bytes s) i) ≡ 4 * i
words_below s i = concat_even (word_bytes s) 4 (word_bytes_length s) i

pub written_turn : (s out next : List ℕ) (i : ℕ) → i < 16 → out ≡ written s i → next ≡ pasted out (4 * i) (word_bytes s i) → next ≡ written s (i + 1)
unfolding concat_below
written_turn s out next i h e f =
    f
    ∙ rw (e, add-one)
    (pasted_next 64 (concat_below (word_bytes s) i) (word_bytes s i) (4 * i) (sym (words_below s i)) (omega (arith, word_bytes_length s i)))

pub written_done : (s out : List ℕ) (i : ℕ) → i ≡ 16 → out ≡ written s i → out ≡ serialized s
unfolding serialized
written_done s out i h e = e ∙ rw h (zero_filled_all 64 (concat_below (word_bytes s) 16) (words_below s 16))

-- a state into which words were written is as long as before
pub pasted_length : (d : List ℕ) (at : ℕ) (s : List ℕ) → at + length s ≤ length d → length (pasted d at s) ≡ length d
unfolding pasted
pasted_length d at s h = simp (length-append, length-take, length-drop) (omega arith)

-- nothing is written yet
pub pasted_none : (d : List ℕ) (at : ℕ) → d ≡ pasted d at []
unfolding pasted
pasted_none d at = rw (add-zero, append-nil) (sym (take-append-drop at d))

pub load_none : (d bytes : List ℕ) (at : ℕ) → d ≡ pasted d at (words bytes 0)
unfolding words listed
load_none d bytes at = pasted_none d at

-- one word more is written
pub load_turn : (s₀ s bytes : List ℕ) (at i x : ℕ) → at + i < length s₀ → s ≡ pasted s₀ at (words bytes i)
    → x ≡ little_endian (take 4 (drop (4 * i) bytes)) → set s (at + i) x ≡ pasted s₀ at (words bytes (i + 1))
unfolding word words listed
load_turn s₀ s bytes at i x h e f =
    let l : length (words bytes i) ≡ i = words_length bytes i in
    let m : length s ≡ length s₀ = rw e (pasted_length s₀ at (words bytes i) (omega arith)) in
    pasted_one s (at + i) x (omega arith)
    ∙ rw (f, e, add-one)
    (ap (λ (k : ℕ). pasted (pasted s₀ at (words bytes i)) (at + k) (word bytes i ∷ [])) (sym l)
    ∙ pasted_adjacent s₀ at (words bytes i) (word bytes i ∷ []) (omega arith))

-- the state of constants and counter, before the words of key and nonce are written into it
abbrev pub blank : ℕ → List ℕ
blank counter = 0x61707865 ∷ 0x3320646e ∷ 0x79622d32 ∷ 0x6b206574 ∷ 0 ∷ 0 ∷ 0 ∷ 0 ∷ 0 ∷ 0 ∷ 0 ∷ 0 ∷ counter ∷ 0 ∷ 0 ∷ 0 ∷ []

module _ (key : List ℕ) (counter : ℕ) (s : List ℕ) (size : length key ≡ 32) (keyed : s ≡ pasted (blank counter) 4 (words key (length key / 4))) where
  pub start_written : (nonce t : List ℕ) → length nonce ≡ 12 → t ≡ pasted s 13 (words nonce (length nonce / 4)) → t ≡ started key counter nonce
  unfolding pasted words listed started
  start_written nonce t short written =
      let e : length key / 4 ≡ 8 = omega arith in
      let f : length nonce / 4 ≡ 3 = omega arith in
      rw (written, keyed, e, f)
