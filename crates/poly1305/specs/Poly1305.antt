-- Poly1305 (RFC 8439, section 2.5), over natural numbers.
use Rattle.std.specs.Prelude.{List, [], ◌∷◌, ◌++◌, ℕ, zero, suc, ◌+◌, ◌*◌, ◌/◌, ◌%◌, length, take, drop}
use Rattle.std.specs.Int.Bits.{bit_and, bit_or, bit_xor}
use Rattle.little_endian.specs.LittleEndian.{little_endian, little_bytes}
use Rattle.poly1305_limbs.specs.Prime.{prime}

-- "clamp(r): r &= 0x0ffffffc0ffffffc0ffffffc0fffffff" (section 2.5.1)
unfoldable pub clamp : ℕ → ℕ
clamp r = bit_and r 0x0ffffffc0ffffffc0ffffffc0fffffff

-- the two numbers that a one-time key of 32 bytes holds: "r = le_bytes_to_num(key[0..15])", clamped, "s = le_bytes_to_num(key[16..31])" (section 2.5.1)
unfoldable pub multiplier : (key : List ℕ) → ℕ
multiplier key = clamp (little_endian (take 16 key))

unfoldable pub addend : (key : List ℕ) → ℕ
addend key = little_endian (take 16 (drop 16 key))

-- block number i of a message: 16 bytes or, at its end, fewer
unfoldable pub block : List ℕ → ℕ → List ℕ
block message i = take 16 (drop (16 * i) message)

-- a block as a number: "Read the block as a little-endian number", "Add one bit beyond the number of octets" (section 2.5)
unfoldable pub numbered : List ℕ → ℕ
numbered bytes = little_endian (bytes ++ (1 ∷ []))

-- the accumulator after one more number: "a += n", "a = (r * a) % p" (section 2.5.1)
unfoldable pub stepped : (r a n : ℕ) → ℕ
stepped r a n = (a + n) * r % prime

-- the accumulator after n blocks of a message, from a on
unfoldable pub absorbed : (r a : ℕ) → List ℕ → (n : ℕ) → ℕ
absorbed r a message zero = a
absorbed r a message (suc i) = stepped r (absorbed r a message i) (numbered (block message i))

-- how many blocks a message has, the last one with whatever is left: "ceil(msg length in bytes / 16)" (section 2.5.1)
unfoldable pub blocks : List ℕ → ℕ
blocks message = (length message + 15) / 16

-- "a += s", "return num_to_16_le_bytes(a)" (section 2.5.1): the 16 bytes are the sum modulo 2 ^ 128
unfoldable pub tagged : (a s : ℕ) → List ℕ
tagged a s = little_bytes 16 (a + s)

-- "poly1305_mac(msg, key)" (section 2.5.1)
unfoldable pub poly1305 : (key message : List ℕ) → List ℕ
poly1305 key message = tagged (absorbed (multiplier key) 0 message (blocks message)) (addend key)

-- one more difference, of two bytes, gathered: nothing is gathered in the end if and only if the bytes are the same
abbrev pub gather : ℕ → ℕ × ℕ → ℕ
gather d (x, y) = bit_or d (bit_xor x y)
