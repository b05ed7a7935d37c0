-- The lengths of the parts of a block.
use mathlib.Core.Path.{◌≡◌}
use mathlib.Core.List.{List}
use Prim.Native.Nat.{ℕ, zero, suc, ◌*◌}
use native.Mathlib.Omega.{arith}
use lib.ListN.{length, get_or, length-append}
use Rattle.lists.specs.Tables.{concat_below}
use Rattle.lists.proofs.Tables.{length_listed}
use Rattle.little_endian.specs.LittleEndian.{little_bytes}
use Rattle.little_endian.proofs.LittleEndian.{little_bytes_length}
use Rattle.chacha20_block.specs.ChaCha20.{word, words, rounds, started, added, serialized, block_of, block_for}

pub words_length : (bytes : List ℕ) (n : ℕ) → length (words bytes n) ≡ n
unfolding words
words_length bytes n = length_listed (word bytes) n

-- n lists of k elements each
pub concat_even : (f : ℕ → List ℕ) (k : ℕ) → ((m : ℕ) → length (f m) ≡ k) → (n : ℕ) → length (concat_below f n) ≡ k * n
unfolding concat_below
concat_even f k even zero = omega arith
concat_even f k even (suc n) = omega (arith, length-append (concat_below f n) (f n), concat_even f k even n, even n)

-- the bytes of word number i of a state
abbrev pub word_bytes : List ℕ → ℕ → List ℕ
word_bytes s i = little_bytes 4 (get_or s i 0)

pub word_bytes_length : (s : List ℕ) (i : ℕ) → length (word_bytes s i) ≡ 4
word_bytes_length s i = little_bytes_length 4 (get_or s i 0)

-- the bytes of a state are 64
serialized_length : (s : List ℕ) → length (serialized s) ≡ 64
unfolding serialized
serialized_length s = concat_even (word_bytes s) 4 (word_bytes_length s) 16

-- a block has 64 bytes
pub block_length : (key : List ℕ) (counter : ℕ) (nonce : List ℕ) → length (block_for key counter nonce) ≡ 64
unfolding block_for block_of
block_length key counter nonce = let s = started key counter nonce in serialized_length (added (rounds s 10) s)
