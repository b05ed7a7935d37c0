-- The ChaCha20 block function (RFC 8439, sections 2.1 to 2.3). A word is a number below 2 ^ 32, a state a list of 16 words.
use Rattle.std.specs.Prelude.{List, [], ◌∷◌, ◌++◌, ℕ, zero, suc, ◌-◌, ◌*◌, ◌/◌, ◌%◌, ◌^◌, get_or, set, take, drop}
use Rattle.std.specs.Int.Bits.{bit_or, bit_xor}
use Rattle.lists.specs.Tables.{listed, concat_below}
use Rattle.words.specs.Words.{add}
use Rattle.little_endian.specs.LittleEndian.{little_endian, little_bytes}
use Rattle.chacha20_block.specs.declared.Quarter.{Quarter}

-- x <<< n: the word x turned left by n bits (section 2.1)
unfoldable pub rotl : (n x : ℕ) → ℕ
rotl n x = bit_or (x * 2 ^ n % 2 ^ 32) (x / 2 ^ (32 - n))

-- the quarter round (section 2.1): its four lines, a line of the RFC each
unfoldable pub quarter_round : Quarter → Quarter
quarter_round q =
    let a = add q.a q.b in let d = rotl 16 (bit_xor q.d a) in
    let c = add q.c d in let b = rotl 12 (bit_xor q.b c) in
    let e = add a b in let h = rotl 8 (bit_xor d e) in
    let g = add c h in let f = rotl 7 (bit_xor b g) in
    record { a = e; b = f; c = g; d = h }

-- the words of the state at four places
abbrev pub quarter_at : (x y z w : ℕ) → List ℕ → Quarter
quarter_at x y z w s = record { a = get_or s x 0; b = get_or s y 0; c = get_or s z 0; d = get_or s w 0 }

-- the state with these words at four places
abbrev pub with_quarter : (x y z w : ℕ) → List ℕ → Quarter → List ℕ
with_quarter x y z w s q = set (set (set (set s x q.a) y q.b) z q.c) w q.d

-- QUARTERROUND(x, y, z, w) on a state (section 2.2)
unfoldable pub quarter_round_at : (x y z w : ℕ) → List ℕ → List ℕ
quarter_round_at x y z w s = with_quarter x y z w s (quarter_round (quarter_at x y z w s))

-- the "column" round and the "diagonal" round (section 2.3)
unfoldable pub column_round : List ℕ → List ℕ
column_round s = quarter_round_at 3 7 11 15 (quarter_round_at 2 6 10 14 (quarter_round_at 1 5 9 13 (quarter_round_at 0 4 8 12 s)))

unfoldable pub diagonal_round : List ℕ → List ℕ
diagonal_round s = quarter_round_at 3 4 9 14 (quarter_round_at 2 7 8 13 (quarter_round_at 1 6 11 12 (quarter_round_at 0 5 10 15 s)))

-- n times both rounds: "inner_block" (section 2.3.1)
unfoldable pub rounds : List ℕ → ℕ → List ℕ
rounds s zero = s
rounds s (suc n) = diagonal_round (column_round (rounds s n))

-- the word number i of bytes, and the first n words: "by reading the bytes in little-endian order, in 4-byte chunks" (section 2.3)
unfoldable pub word : List ℕ → ℕ → ℕ
word bytes i = little_endian (take 4 (drop (4 * i) bytes))

unfoldable pub words : List ℕ → ℕ → List ℕ
words bytes n = listed (word bytes) n

-- "The first four words (0-3) are constants" (section 2.3)
abbrev pub constants : List ℕ
constants = 0x61707865 ∷ 0x3320646e ∷ 0x79622d32 ∷ 0x6b206574 ∷ []

-- the state at the start: constants, key, counter, nonce (section 2.3)
unfoldable pub started : (key : List ℕ) (counter : ℕ) (nonce : List ℕ) → List ℕ
started key counter nonce = constants ++ words key 8 ++ (counter ∷ []) ++ words nonce 3

-- "we add the original input words to the output words" (section 2.3)
unfoldable pub added : List ℕ → List ℕ → List ℕ
added s t = listed (λ (i : ℕ). add (get_or s i 0) (get_or t i 0)) 16

-- "serialize the result by sequencing the words one-by-one in little-endian order" (section 2.3)
unfoldable pub serialized : List ℕ → List ℕ
serialized s = concat_below (λ (i : ℕ). little_bytes 4 (get_or s i 0)) 16

-- the 64 bytes that come of a state: 20 rounds, the addition, the bytes (section 2.3.1)
unfoldable pub block_of : List ℕ → List ℕ
block_of s = serialized (added (rounds s 10) s)

-- the ChaCha20 block function: "chacha20_block(key, counter, nonce)" (section 2.3.1)
unfoldable pub block_for : (key : List ℕ) (counter : ℕ) (nonce : List ℕ) → List ℕ
block_for key counter nonce = block_of (started key counter nonce)
