-- The fingerprint of a root secret.
use Rattle.std.specs.Prelude.{ℕ, cond, List, eqb, length, replicate, take}
use Rattle.decimals.specs.Text.{bytes_of}
use Rattle.hmac.specs.Hmac.{hmac}
use Rattle.fingerprint.specs.declared.RootFingerprint.{RootFingerprint}

-- what is hashed under the root secret: 25 bytes, so never a name (8) nor a name with a version (10)
unfoldable pub fingerprint_text : List ℕ
fingerprint_text = bytes_of "Yendlowa root fingerprint"

-- the first 8 bytes of its HMAC
abbrev pub made_fingerprint : List ℕ → RootFingerprint
made_fingerprint root = record { refusal = 0; bytes = take 8 (hmac root fingerprint_text) }

-- 15, "root secret not 32 bytes": zeros
abbrev pub refused_fingerprint : RootFingerprint
refused_fingerprint = record { refusal = 15; bytes = replicate 8 0 }

unfoldable pub fingerprint_of : List ℕ → RootFingerprint
fingerprint_of root = cond (eqb (length root) 32) (made_fingerprint root) refused_fingerprint
