-- A hash has 32 elements, and each is a byte.
use mathlib.Core.Path.{◌≡◌}
use mathlib.Core.List.{List, ◌++◌}
use Prim.Native.Nat.{ℕ, zero, suc, ◌/◌, ◌%◌, ◌^◌, ◌<◌}
use native.Mathlib.Omega.{arith}
use lib.Dec.{lit<}
use lib.ListN.{length, get_or}
use Rattle.sha256_constants.specs.Constants.{initial}
use Rattle.padding.specs.Padding.{word_bytes, padding}
use Rattle.sha256.specs.Sha256.{chained, joined, digest_from, hash}
use Rattle.sha256.proofs.Joined.{joined_length}
use Rattle.sha256.proofs.Lists.{Bytes, bytes_append}

pub hash_length : (m : List ℕ) → length (hash m) ≡ 32
unfolding hash digest_from
hash_length m = let p = m ++ padding (length m) in joined_length (chained initial p (length p / 64)) 8

mod_byte : (x : ℕ) → x % 256 < 256
mod_byte x = omega arith

word_bytes_lem : (x : ℕ) → Bytes (word_bytes x)
unfolding word_bytes
word_bytes_lem x zero = mod_byte (x / 2 ^ 24)
word_bytes_lem x (suc zero) = mod_byte (x / 2 ^ 16)
word_bytes_lem x (suc (suc zero)) = mod_byte (x / 2 ^ 8)
word_bytes_lem x (suc (suc (suc zero))) = mod_byte x
word_bytes_lem x (suc (suc (suc (suc i)))) = lit< tt

joined_bytes : (h : List ℕ) (n : ℕ) → Bytes (joined h n)
unfolding joined
joined_bytes h zero = λ i. lit< tt
joined_bytes h (suc k) = bytes_append (joined h k) (word_bytes (get_or h k 0)) (joined_bytes h k) (word_bytes_lem (get_or h k 0))

pub hash_bytes : (m : List ℕ) → Bytes (hash m)
unfolding hash digest_from
hash_bytes m = let p = m ++ padding (length m) in joined_bytes (chained initial p (length p / 64)) 8
