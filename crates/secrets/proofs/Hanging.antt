-- Laws of labels that hang from parents of smaller numbers, and of their secrets.
use Prim.Native.Nat.{ℕ, ◌≤◌, ◌<◌}
use mathlib.Core.List.{List}
use mathlib.Core.Logic.{◌⊎◌, inl, inr, ◌≢◌}
use mathlib.Core.Path.{◌≡◌, sym, ap, ap₂, ◌∙◌}
use native.Mathlib.Omega.{arith}
use Rattle.hmac.specs.Secrets.{child_secret}
use Rattle.trees.specs.Trees.{top}
use Rattle.trees.proofs.Order.{is_top}
use Rattle.weights.specs.Tables.{entries, Rowed}
use Rattle.envelopes.specs.Secrets.{secret_of}
use Rattle.envelopes.proofs.Secrets.{Falls, secret_top, secret_child}
use Rattle.secrets.specs.Asks.{Hung}

module _ {file parents : List ℕ} {labels : ℕ} (h : Hung file parents labels) where
  -- fewer labels hang as well
  pub hung_fewer : (n : ℕ) → n ≤ labels → Hung file parents n
  hung_fewer n l = record {
    few = omega (arith, h.few);
    within = omega (arith, h.within);
    falls = λ m k. h.falls m (omega arith);
    under = h.under;
  }

  -- every parent has a row
  pub hung_row : Rowed labels parents
  hung_row m k = go (is_top m)
    where
      go : (m ≡ top) ⊎ (m ≢ top) → entries parents m < 64
      go (inl e) = rw e h.under
      go (inr ne) = omega (arith, h.falls m k ne, h.few)

-- the secret of label m, the top or not
module _ (name : ℕ → List ℕ) (parent : ℕ → ℕ) (root : List ℕ) (m : ℕ) where
  pub secret_root : m ≡ top → root ≡ secret_of name parent root m
  secret_root e = sym (ap (secret_of name parent root) e ∙ secret_top name parent root)

  pub secret_made : m ≢ top → Falls parent m → (above own : List ℕ) → above ≡ secret_of name parent root (parent m) → own ≡ name m
      → child_secret above own ≡ secret_of name parent root m
  secret_made ne falls above own a n = ap₂ child_secret a n ∙ sym (secret_child name parent root m ne falls)
