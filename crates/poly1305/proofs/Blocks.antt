-- Blocks absorbed one after the other.
use mathlib.Core.Path.{◌≡◌, refl, ap, sym, ◌∙◌}
use mathlib.Core.List.{List, [], ◌∷◌, ◌++◌}
use Prim.Native.Nat.{ℕ, zero, suc, ◌+◌, ◌-◌, ◌*◌, ◌/◌, ◌%◌, ◌^◌, ◌≤◌, ◌<◌}
use native.Mathlib.Omega.{arith}
use lib.ListN.{length, get_or, take, drop, set, replicate, length-append, length-take, length-drop}
use lib.Seq.{drop-drop, drop_at, length-take-le, take-append-le, drop-append-le, take_all}
use Rattle.std.specs.Simd.{first_chunks}
use Rattle.lists.specs.Buffer.{zero_filled}
use Rattle.lists.proofs.Chunks.{chunk_at}
use Rattle.lists.proofs.Pasted.{copied, stored_next, zero_filled_length}
use Rattle.little_endian.specs.LittleEndian.{little_endian}
use Rattle.little_endian.proofs.LittleEndian.{little_append, little_bytes_length, little_zeros}
use Rattle.poly1305_limbs.specs.Prime.{prime}
use Rattle.poly1305_limbs.proofs.Values.{no_top}
use Rattle.poly1305.specs.Poly1305.{block, numbered, stepped, absorbed, blocks, tagged, poly1305}

-- the blocks from number i on are those of what stands after i blocks
block_from : (s : List ℕ) (i j : ℕ) → block s (i + j) ≡ block (drop (16 * i) s) j
unfolding block
block_from s i j = let e : 16 * i + 16 * j ≡ 16 * (i + j) = omega arith in rw (drop-drop (16 * j) (16 * i) s, e)

pub absorbed_from : (r a : ℕ) (s : List ℕ) (i j : ℕ) → absorbed r a s (i + j) ≡ absorbed r (absorbed r a s i) (drop (16 * i) s) j
unfolding absorbed
absorbed_from r a s i zero = let e : i + 0 ≡ i = omega arith in rw e
absorbed_from r a s i (suc j) =
    let e : i + suc j ≡ suc (i + j) = omega arith in
    rw (e, absorbed_from r a s i j, block_from s i j)

-- bytes after the last block do not count
block_front : (m s : List ℕ) (i : ℕ) → 16 * suc i ≤ length m → block (m ++ s) i ≡ block m i
unfolding block
block_front m s i h =
    rw (drop-append-le (16 * i) m s (omega arith), take-append-le 16 (drop (16 * i) m) s (omega (arith, length-drop (16 * i) m)))

pub absorbed_front : (r a : ℕ) (m s : List ℕ) (i : ℕ) → 16 * i ≤ length m → absorbed r a (m ++ s) i ≡ absorbed r a m i
unfolding absorbed
absorbed_front r a m s zero h = refl
absorbed_front r a m s (suc i) h = rw (absorbed_front r a m s i (omega arith), block_front m s i h)

-- whole blocks m, and s after them
pub absorbed_more : (r a : ℕ) (m s : List ℕ) (i j : ℕ) → length m ≡ 16 * i → absorbed r a (m ++ s) (i + j) ≡ absorbed r (absorbed r a m i) s j
absorbed_more r a m s i j e =
    absorbed_from r a (m ++ s) i j ∙ rw (absorbed_front r a m s i (omega arith), drop_at m s (16 * i) e)

-- a tag has 16 bytes
pub tagged_length : (a s : ℕ) → length (tagged a s) ≡ 16
unfolding tagged
tagged_length a s = little_bytes_length 16 (a + s)

pub poly1305_length : (key message : List ℕ) → length (poly1305 key message) ≡ 16
unfolding poly1305
poly1305_length key message = tagged_length _ _

one_byte : little_endian (1 ∷ []) ≡ 1
unfolding little_endian
one_byte = refl

-- a whole block as a number
pub whole_number : (s : List ℕ) (i : ℕ) → 16 * suc i ≤ length s → numbered (block s i) ≡ little_endian (take 16 (drop (16 * i) s)) + 2 ^ 128 * 1
unfolding numbered block
whole_number s i h =
    let b = take 16 (drop (16 * i) s) in
    let l : length b ≡ 16 = length-take-le 16 (drop (16 * i) s) (omega (arith, length-drop (16 * i) s)) in
    little_append b (1 ∷ []) ∙ rw (l, one_byte)

-- a block as `as_chunks` cuts it
cut : (s : List ℕ) (i count : ℕ) → i < count → take 16 (get_or (first_chunks 16 count s) i []) ≡ take 16 (drop (16 * i) s)
cut s i count h = rw (chunk_at 16 count s i h) (take_all 16 (take 16 (drop (16 * i) s)) (omega (arith, length-take 16 (drop (16 * i) s))))

-- one turn of the loop over whole blocks
pub absorbed_turn : (r a : ℕ) (s : List ℕ) (i x v n : ℕ) → i < length s / 16 → x ≡ absorbed r a s i
    → n ≡ little_endian (take 16 (get_or (first_chunks 16 (length s / 16) s) i []))
    → v ≡ (x + (n + 2 ^ 128 * 1)) * r % prime → v ≡ absorbed r a s (i + 1)
unfolding absorbed stepped
absorbed_turn r a s i x v n h e f g =
    let k : i + 1 ≡ suc i = omega arith in
    rw (k, whole_number s i (omega arith)) (g ∙ rw (e, f, cut s i (length s / 16) h))

-- no block is left, or one that is not whole
pub rest_none : (r a : ℕ) (s : List ℕ) → length s ≡ 0 → absorbed r a s (blocks s) ≡ a
unfolding absorbed blocks
rest_none r a s e = rw e

rest_block : (s : List ℕ) → length s < 16 → block s 0 ≡ s
unfolding block
rest_block s h = take_all 16 s (omega arith)

rest_number : (s : List ℕ) → length s < 16 → little_endian (zero_filled 16 (s ++ (1 ∷ []))) ≡ numbered s
unfolding zero_filled numbered
rest_number s h = little_zeros (s ++ (1 ∷ [])) (16 - length (s ++ (1 ∷ [])))

pub absorbed_rest : (r a : ℕ) (s copy : List ℕ) (n v : ℕ) → 0 < length s → length s < 16
    → copy ≡ s ++ drop (length s) (replicate 16 0) → n ≡ little_endian (take 16 (drop 0 (set copy (length s) 1)))
    → v ≡ (a + (n + 2 ^ 128 * 0)) * r % prime → v ≡ absorbed r a s (blocks s)
unfolding absorbed stepped blocks
absorbed_rest r a s copy n v l h e f g =
    let one : (length s + 15) / 16 ≡ 1 = omega arith in
    let filled : set copy (length s) 1 ≡ zero_filled 16 (s ++ (1 ∷ [])) = rw (e, copied 16 s (omega arith)) (stored_next 16 s 1 h) in
    let size : length (zero_filled 16 (s ++ (1 ∷ []))) ≡ 16 =
    zero_filled_length 16 (s ++ (1 ∷ [])) (omega (arith, length-append s (1 ∷ [])))
    in
    let number : n + 2 ^ 128 * 0 ≡ numbered s =
    no_top n (2 ^ 128) ∙ f ∙ rw filled (ap little_endian (take_all 16 (zero_filled 16 (s ++ (1 ∷ []))) (omega arith)) ∙ rest_number s h)
    in
    g ∙ rw (one, number, rest_block s h)

-- the whole blocks of a message, then what is left
pub absorbed_all : (r a : ℕ) (m rest : List ℕ) → rest ≡ drop (length m / 16 * 16) m
    → absorbed r (absorbed r a m (length m / 16)) rest (blocks rest) ≡ absorbed r a m (blocks m)
unfolding blocks
absorbed_all r a m rest part =
    let q = length m / 16 in
    let e : q * 16 ≡ 16 * q = omega arith in
    let f : rest ≡ drop (16 * q) m = part ∙ rw e in
    let g : q + (length (drop (16 * q) m) + 15) / 16 ≡ (length m + 15) / 16 = omega (arith, length-drop (16 * q) m) in
    rw f (sym (absorbed_from r a m q ((length (drop (16 * q) m) + 15) / 16)) ∙ rw g)
