-- Secrets and keys of labels (01, "Secrets, keys and the envelope"), over their names, a tree and the root secret.
use Rattle.std.specs.Prelude.{ℕ, zero, suc, cond, List, eqb}
use Rattle.hmac.specs.Secrets.{child_secret, label_key}
use Rattle.trees.specs.Trees.{top}

module _ (name : ℕ → List ℕ) (parent : ℕ → ℕ) (root : List ℕ) where
  -- "The top's secret is the root secret .. A child's secret is F(parent's secret, child's name)", going up at most `steps` parents
  unfoldable pub secret_from : (steps m : ℕ) → List ℕ
  secret_from zero m = root
  secret_from (suc steps) m = cond (eqb m top) root (child_secret (secret_from steps (parent m)) (name m))

  -- label m's secret: a parent has the smaller number, so the top is at most m parents away
  unfoldable pub secret_of : ℕ → List ℕ
  secret_of m = secret_from m m

  -- "a label's key is F(its secret, its own name)"
  unfoldable pub key_of : ℕ → List ℕ
  key_of m = label_key (secret_of m) (name m)
