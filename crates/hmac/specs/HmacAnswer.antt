-- The answer of the public operation `hmac_sha256`.
use Rattle.std.specs.Prelude.{cond, List, ℕ, ltb, length}
use Rattle.sha256.specs.Digest.{limit, made, too_long}
use Rattle.sha256.specs.declared.Digest.{Digest}
use Rattle.hmac.specs.Hmac.{hmac}

-- a key or a message above the limit is refused
unfoldable pub hmac_of : List ℕ → List ℕ → Digest
hmac_of key message =
    cond (ltb limit (length key)) too_long (cond (ltb limit (length message)) too_long (made (hmac key message)))
