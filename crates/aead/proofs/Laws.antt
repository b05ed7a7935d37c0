-- Laws of ciphertexts and tags.
use Prim.Native.Nat.{ℕ}
use mathlib.Core.List.{List}
use mathlib.Core.Path.{◌≡◌}
use lib.ListN.{length}
use Rattle.chacha20.proofs.Encrypted.{encrypted_length, encrypted_twice}
use Rattle.poly1305.proofs.Blocks.{poly1305_length}
use Rattle.aead.specs.Aead.{ciphered, tag_of}

module _ (key nonce : List ℕ) where
  pub ciphered_length : (text : List ℕ) → length (ciphered key nonce text) ≡ length text
  unfolding ciphered
  ciphered_length text = encrypted_length key 1 nonce text

  -- decryption undoes encryption
  pub ciphered_twice : (text : List ℕ) → ciphered key nonce (ciphered key nonce text) ≡ text
  unfolding ciphered
  ciphered_twice text = encrypted_twice key 1 nonce text

  pub tag_length : (aad ciphertext : List ℕ) → length (tag_of key nonce aad ciphertext) ≡ 16
  unfolding tag_of
  tag_length aad ciphertext = poly1305_length _ _
