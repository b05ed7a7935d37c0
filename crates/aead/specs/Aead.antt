-- The AEAD construction ChaCha20-Poly1305 (RFC 8439, sections 2.6 and 2.8).
use Rattle.std.specs.Prelude.{List, ◌++◌, ℕ, ◌-◌, ◌%◌, length, take, replicate}
use Rattle.little_endian.specs.LittleEndian.{little_bytes}
use Rattle.chacha20_block.specs.ChaCha20.{block_for}
use Rattle.chacha20.specs.Encryption.{encrypted}
use Rattle.poly1305.specs.Poly1305.{poly1305}

-- "poly1305_key_gen(key,nonce)": the first 32 bytes of the block with counter 0 (section 2.6.1)
unfoldable pub one_time_key : (key nonce : List ℕ) → List ℕ
one_time_key key nonce = take 32 (block_for key 0 nonce)

-- bytes and their "pad16(x)", zeros up to a multiple of 16 bytes (section 2.8.1)
unfoldable pub padded : List ℕ → List ℕ
padded s = s ++ replicate ((16 - length s % 16) % 16) 0

-- what the tag is made of: additional data and ciphertext, each padded, then the length of each "as a 64-bit little-endian integer" (section 2.8)
unfoldable pub mac_data : (aad ciphertext : List ℕ) → List ℕ
mac_data aad ciphertext = padded aad ++ padded ciphertext ++ little_bytes 8 (length aad) ++ little_bytes 8 (length ciphertext)

-- the ciphertext: "using the same key and nonce, and with the initial counter set to 1" (section 2.8). It is also how a ciphertext is decrypted.
unfoldable pub ciphered : (key nonce text : List ℕ) → List ℕ
ciphered key nonce text = encrypted key 1 nonce text

-- the tag of a ciphertext and its additional data (section 2.8)
unfoldable pub tag_of : (key nonce aad ciphertext : List ℕ) → List ℕ
tag_of key nonce aad ciphertext = poly1305 (one_time_key key nonce) (mac_data aad ciphertext)
