-- A child's secret and a label's key have 32 elements, and each is a byte.
use mathlib.Core.Path.{◌≡◌}
use mathlib.Core.List.{List}
use Prim.Native.Nat.{ℕ}
use lib.ListN.{length}
use Rattle.sha256.proofs.Lists.{Bytes}
use Rattle.hmac.specs.Secrets.{F, child_secret, label_key}
use Rattle.hmac.proofs.Laws.{hmac_length, hmac_bytes}

pub child_length : (secret name : List ℕ) → length (child_secret secret name) ≡ 32
unfolding child_secret F
child_length secret name = hmac_length secret name

pub child_bytes : (secret name : List ℕ) → Bytes (child_secret secret name)
unfolding child_secret F
child_bytes secret name = hmac_bytes secret name

pub key_length : (secret name : List ℕ) → length (label_key secret name) ≡ 32
unfolding label_key F
key_length secret name = hmac_length secret name

pub key_bytes : (secret name : List ℕ) → Bytes (label_key secret name)
unfolding label_key F
key_bytes secret name = hmac_bytes secret name
