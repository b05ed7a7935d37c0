-- Secrets and keys (01, "Secrets, keys and the envelope").
use Rattle.std.specs.Prelude.{List, ℕ}
use Rattle.hmac.specs.Hmac.{hmac}

-- "F(k, m) is HMAC-SHA-256 with key k."
unfoldable pub F : List ℕ → List ℕ → List ℕ
F k m = hmac k m

-- "A child's secret is F(parent's secret, child's name)". A change of how a child's secret is made touches this alone.
unfoldable pub child_secret : (secret name : List ℕ) → List ℕ
child_secret secret name = F secret name

-- "a label's key is F(its secret, its own name)"
unfoldable pub label_key : (secret name : List ℕ) → List ℕ
label_key secret name = F secret name
