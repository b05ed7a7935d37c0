-- The worked example of RFC 8439, section 2.5.2, computed from the definitions.
use mathlib.Core.Path.{◌≡◌, refl}
use mathlib.Core.List.{List, [], ◌∷◌, ◌++◌}
use Prim.Native.Nat.{ℕ, zero, suc, ◌/◌, ◌%◌}
use Rattle.little_endian.specs.LittleEndian.{little_endian, little_bytes}
use Rattle.poly1305_limbs.specs.Prime.{prime}
use Rattle.poly1305.specs.Poly1305.{clamp, multiplier, addend, block, numbered, stepped, absorbed, blocks, tagged, poly1305}

-- the n bytes of a number as it is written in hexadecimal, from left to right
abbrev hex : (n x : ℕ) → List ℕ
hex zero x = []
hex (suc n) x = hex n (x / 256) ++ (x % 256 ∷ [])

abbrev key : List ℕ
key = hex 32 0x85d6be7857556d337f4452fe42d506a80103808afb0db2fd4abff6af4149f51b

-- "Cryptographic Forum Research Group"
abbrev message : List ℕ
message = hex 34 0x43727970746f6772617068696320466f72756d2052657365617263682047726f7570

pub section_2_5_2 : poly1305 key message ≡ hex 16 0xa8061dc1305136c6c22b8baf0c0127a9
unfolding poly1305 tagged addend multiplier clamp absorbed stepped numbered block blocks little_endian little_bytes prime
section_2_5_2 = refl
