-- HMAC (FIPS 198-1, section 4) with SHA-256, whose block B has 64 bytes and whose hash L has 32.
use Rattle.std.specs.Prelude.{cond, List, ◌++◌, map, ℕ, leb, length}
use Rattle.std.specs.Int.Bits.{bit_xor}
use Rattle.lists.specs.Buffer.{zero_filled}
use Rattle.sha256.specs.Sha256.{hash}

-- K0: the key, or its hash if it is longer than a block, with zeros after it up to 64 bytes (table 1, steps 1 to 3)
unfoldable pub key_block : List ℕ → List ℕ
key_block key = zero_filled 64 (cond (leb (length key) 64) key (hash key))

-- a block with each byte exclusive-ored with the same byte (table 1, steps 4 and 7)
unfoldable pub masked : ℕ → List ℕ → List ℕ
masked pad = map (λ x. bit_xor x pad)

-- ipad and opad: the byte repeated 64 times (section 2.3)
abbrev pub ipad : ℕ
ipad = 0x36

abbrev pub opad : ℕ
opad = 0x5c

-- HMAC: H((K0 ⊕ opad) ‖ H((K0 ⊕ ipad) ‖ text)) (section 4, equation of table 1)
unfoldable pub hmac : List ℕ → List ℕ → List ℕ
hmac key text = hash (masked opad (key_block key) ++ hash (masked ipad (key_block key) ++ text))
