-- Encryption keeps the length, and undoes itself.
use mathlib.Core.Path.{◌≡◌}
use mathlib.Core.List.{List}
use Prim.Native.Nat.{ℕ, ◌+◌}
use lib.ListN.{length}
use Rattle.chacha20_block.specs.ChaCha20.{block_for}
use Rattle.chacha20_block.proofs.Lengths.{block_length}
use Rattle.chacha20.specs.Encryption.{encrypted}
use Rattle.chacha20.proofs.Stream.{streamed_length, streamed_twice}

module _ (key : List ℕ) (counter : ℕ) (nonce : List ℕ) where
  -- the key stream
  abbrev pub key_stream : ℕ → List ℕ
  key_stream j = block_for key (counter + j) nonce

  pub key_stream_wide : (j : ℕ) → length (key_stream j) ≡ 64
  key_stream_wide j = block_length key (counter + j) nonce

  pub encrypted_length : (text : List ℕ) → length (encrypted key counter nonce text) ≡ length text
  unfolding encrypted
  encrypted_length text = streamed_length key_stream key_stream_wide text

  -- decryption is encryption
  pub encrypted_twice : (text : List ℕ) → encrypted key counter nonce (encrypted key counter nonce text) ≡ text
  unfolding encrypted
  encrypted_twice text = streamed_twice key_stream key_stream_wide text
