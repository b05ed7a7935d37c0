-- An HMAC has 32 elements, and each is a byte.
use mathlib.Core.Path.{◌≡◌}
use mathlib.Core.List.{List, ◌++◌}
use Prim.Native.Nat.{ℕ}
use lib.ListN.{length}
use Rattle.sha256.specs.Sha256.{hash}
use Rattle.sha256.proofs.Lists.{Bytes}
use Rattle.sha256.proofs.Hash.{hash_length, hash_bytes}
use Rattle.hmac.specs.Hmac.{key_block, masked, ipad, opad, hmac}

pub hmac_length : (key text : List ℕ) → length (hmac key text) ≡ 32
unfolding hmac
hmac_length key text = hash_length (masked opad (key_block key) ++ hash (masked ipad (key_block key) ++ text))

pub hmac_bytes : (key text : List ℕ) → Bytes (hmac key text)
unfolding hmac
hmac_bytes key text = hash_bytes (masked opad (key_block key) ++ hash (masked ipad (key_block key) ++ text))
