-- A worked example: the hash of "abc" (FIPS 180-4, the example of a one-block message).
use mathlib.Core.Path.{◌≡◌, refl}
use mathlib.Core.List.{[], ◌∷◌}
use Rattle.words.specs.Words.{rotr, big_sigma0, big_sigma1, small_sigma0, small_sigma1}
use Rattle.sha256_constants.specs.Constants.{round_words, initial}
use Rattle.compression.specs.Compression.{words, extended, schedule, round_of, rounds, compressed}
use Rattle.padding.specs.Padding.{word_bytes, length_block, padding}
use Rattle.sha256.specs.Sha256.{block, chained, joined, digest_from, hash}

pub abc : hash (0x61 ∷ 0x62 ∷ 0x63 ∷ [])
    ≡ 0xba ∷ 0x78 ∷ 0x16 ∷ 0xbf ∷ 0x8f ∷ 0x01 ∷ 0xcf ∷ 0xea ∷ 0x41 ∷ 0x41 ∷ 0x40 ∷ 0xde ∷ 0x5d ∷ 0xae ∷ 0x22 ∷ 0x23
    ∷ 0xb0 ∷ 0x03 ∷ 0x61 ∷ 0xa3 ∷ 0x96 ∷ 0x17 ∷ 0x7a ∷ 0x9c ∷ 0xb4 ∷ 0x10 ∷ 0xff ∷ 0x61 ∷ 0xf2 ∷ 0x00 ∷ 0x15 ∷ 0xad ∷ []
unfolding hash digest_from joined chained block padding length_block word_bytes compressed rounds round_of schedule extended words initial round_words rotr big_sigma0 big_sigma1 small_sigma0 small_sigma1
abc = refl
