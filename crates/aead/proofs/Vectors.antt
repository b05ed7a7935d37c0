-- The worked examples of RFC 8439, sections 2.6.2 and 2.8.2, computed from the definitions.
use mathlib.Core.Path.{◌≡◌, refl}
use mathlib.Core.List.{List, [], ◌∷◌, ◌++◌}
use Prim.Native.Nat.{ℕ, zero, suc, ◌/◌, ◌%◌}
use Rattle.lists.specs.Tables.{listed, concat_below}
use Rattle.little_endian.specs.LittleEndian.{little_endian, little_bytes}
use Rattle.chacha20_block.specs.ChaCha20.{rotl, quarter_round, quarter_round_at, column_round, diagonal_round, rounds, word, words, started, added, serialized, block_of, block_for}
use Rattle.chacha20.specs.Encryption.{xored, text_block, streamed, encrypted}
use Rattle.poly1305_limbs.specs.Prime.{prime}
use Rattle.poly1305.specs.Poly1305.{clamp, multiplier, addend, block, numbered, stepped, absorbed, blocks, tagged, poly1305}
use Rattle.aead.specs.Aead.{one_time_key, padded, mac_data, ciphered, tag_of}

-- the n bytes of a number as it is written in hexadecimal, from left to right
abbrev hex : (n x : ℕ) → List ℕ
hex zero x = []
hex (suc n) x = hex n (x / 256) ++ (x % 256 ∷ [])

abbrev key : List ℕ
key = hex 32 0x808182838485868788898a8b8c8d8e8f909192939495969798999a9b9c9d9e9f

pub section_2_6_2 : one_time_key key (hex 12 0x000000000001020304050607) ≡ hex 32 0x8ad5a08b905f81cc815040274ab29471a833b637e3fd0da508dbb8e2fdd1a646
unfolding one_time_key block_for block_of started words word little_endian listed rounds column_round diagonal_round quarter_round_at quarter_round rotl added serialized concat_below little_bytes
section_2_6_2 = refl

-- of section 2.8.2 the nonce: the constant 07 00 00 00, then the "IV"
abbrev nonce : List ℕ
nonce = hex 12 0x070000004041424344454647

-- "Ladies and Gentlemen of the class of '99: If I could offer you only one tip for the future, sunscreen would be it."
abbrev sunscreen : List ℕ
sunscreen =
    hex 38 0x4c616469657320616e642047656e746c656d656e206f662074686520636c617373206f662027
    ++ hex 38 0x39393a204966204920636f756c64206f6666657220796f75206f6e6c79206f6e652074697020
    ++ hex 38 0x666f7220746865206675747572652c2073756e73637265656e20776f756c642062652069742e

abbrev ciphertext : List ℕ
ciphertext =
    hex 38 0xd31a8d34648e60db7b86afbc53ef7ec2a4aded51296e08fea9e2b5a736ee62d63dbea45e8ca9
    ++ hex 38 0x671282fafb69da92728b1a71de0a9e060b2905d6a5b67ecd3b3692ddbd7f2d778b8c9803aee3
    ++ hex 38 0x28091b58fab324e4fad675945585808b4831d7bc3ff4def08e4b7a9de576d26586cec64b6116

pub section_2_8_2_ciphertext : ciphered key nonce sunscreen ≡ ciphertext
unfolding ciphered encrypted streamed text_block xored block_for block_of started words word little_endian listed rounds column_round diagonal_round quarter_round_at quarter_round rotl added serialized concat_below little_bytes
section_2_8_2_ciphertext = refl

pub section_2_8_2_tag : tag_of key nonce (hex 12 0x50515253c0c1c2c3c4c5c6c7) ciphertext ≡ hex 16 0x1ae10b594f09e26a7e902ecbd0600691
unfolding tag_of mac_data padded one_time_key block_for block_of started words word listed rounds column_round diagonal_round quarter_round_at quarter_round rotl added serialized concat_below poly1305 tagged addend multiplier clamp absorbed stepped numbered block blocks little_endian little_bytes prime
section_2_8_2_tag = refl
