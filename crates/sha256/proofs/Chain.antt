-- The hash value along the blocks of a message.
use mathlib.Core.Path.{◌≡◌, refl, ◌∙◌}
use mathlib.Core.List.{List, [], ◌++◌, append_assoc}
use Prim.Native.Nat.{ℕ, zero, suc, ◌+◌, ◌*◌, ◌/◌, ◌≤◌, ◌<◌}
use native.Mathlib.Nat.{add-zero, add-suc}
use native.Mathlib.Numerals.{add-one}
use native.Mathlib.Omega.{arith}
use lib.ListN.{length, get_or, drop, length-append, length-drop, drop_of_length-le}
use lib.Seq.{take_all, take-append-le, drop-append-le, drop-drop}
use Rattle.std.specs.Simd.{first_chunks}
use Rattle.lists.proofs.Chunks.{chunk_at}
use Rattle.sha256_constants.specs.Constants.{initial}
use Rattle.compression.specs.Compression.{compressed}
use Rattle.padding.specs.Padding.{padding}
use Rattle.sha256.specs.Sha256.{block, chained, digest_from, hash}

-- a whole block of m is that block of a longer message
block_front : (m s : List ℕ) (i : ℕ) → 64 * i + 64 ≤ length m → block (m ++ s) i ≡ block m i
unfolding block
block_front m s i h =
    let l : 64 ≤ length (drop (64 * i) m) = omega (arith, length-drop (64 * i) m) in
    rw (drop-append-le (64 * i) m s (omega arith), take-append-le 64 (drop (64 * i) m) s l)

pub chained_front : (h m s : List ℕ) (n : ℕ) → 64 * n ≤ length m → chained h (m ++ s) n ≡ chained h m n
unfolding chained
chained_front h m s zero le = refl
chained_front h m s (suc n) le = rw (chained_front h m s n (omega arith), block_front m s n (omega arith))

-- n blocks and then j blocks of the rest
pub chained_add : (h p : List ℕ) (n j : ℕ) → chained h p (n + j) ≡ chained (chained h p n) (drop (64 * n) p) j
unfolding chained block
chained_add h p n zero = rw add-zero
chained_add h p n (suc j) =
    let e : 64 * (n + j) ≡ 64 * n + 64 * j = omega arith in
    rw (add-suc, chained_add h p n j, drop-drop (64 * j) (64 * n) p, e)

-- one turn of the loop over the blocks, as `as_chunks` cuts them
pub chained_turn : (h₀ m h : List ℕ) (i count : ℕ) → i < count → h ≡ chained h₀ m i
    → compressed h (get_or (first_chunks 64 count m) i []) ≡ chained h₀ m (i + 1)
unfolding chained block
chained_turn h₀ m h i count l e = rw (add-one, e, chunk_at 64 count m i l)

-- n whole blocks of m may be taken before the rest
pub digest_rest : (h m s : List ℕ) (n : ℕ) → 64 * n ≤ length m → digest_from h (m ++ s) ≡ digest_from (chained h m n) (drop (64 * n) m ++ s)
unfolding digest_from
digest_rest h m s n le =
    let t : List ℕ = drop (64 * n) m ++ s in
    let count : length (m ++ s) / 64 ≡ n + length t / 64 =
    omega (arith, length-append m s, length-append (drop (64 * n) m) s, length-drop (64 * n) m)
    in
    rw (count, chained_add h (m ++ s) n (length t / 64), chained_front h m s n le, drop-append-le (64 * n) m s le)

-- the hash of a block and what follows it
pub hash_after_block : (b m : List ℕ) → length b ≡ 64 → hash (b ++ m) ≡ digest_from (compressed initial b) (m ++ padding (64 + length m))
unfolding hash chained block
hash_after_block b m e =
    let l : length (b ++ m) ≡ 64 + length m = omega (arith, length-append b m) in
    let rest : drop 64 b ≡ [] = drop_of_length-le b {i = 64} (omega arith) in
    rw (l, append_assoc b m (padding (64 + length m)))
    (digest_rest initial b (m ++ padding (64 + length m)) 1 (omega arith) ∙ rw (rest, take_all 64 b (omega arith)))
