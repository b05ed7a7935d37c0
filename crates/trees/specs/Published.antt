-- Document 003's own words for what `Trees.antt` says: arcs and directed paths of a derivation out-tree, and Definition 2.
use Rattle.std.specs.Prelude.{ℕ, ◌<◌, ◌≡◌, ◌≢◌}
use mathlib.Core.List.{List, Memᴰ}
use Rattle.trees.specs.Trees.{top, Once}

-- yz ∈ E(T): the one arc to z, which is not the root, comes from its parent
pub record Arc (n : ℕ) (parent : ℕ → ℕ) (y z : ℕ) : Type 0 where
  pub label : z < n
  pub under : z ≢ top
  pub from : parent z ≡ y

-- z ⇝ u in T: a directed path from z to u, perhaps of no arc; its last arc leads from parent u to u
pub data Leads (n : ℕ) (parent : ℕ → ℕ) (z : ℕ) : ℕ → Type 0 where
  stay : Leads n parent z z
  arc : {u : ℕ} → u < n → u ≢ top → Leads n parent z (parent u) → Leads n parent z u

-- Definition 2, for the set φ(x) of one label x: a set of labels such that
--   x ∈ φ(x);
--   if u ⩽ x then there exists z ∈ φ(x) such that z ⇝ u;
--   if u ⩽ x does not hold then for all z ∈ φ(x), not z ⇝ u.
pub record Definition2 (n : ℕ) (R : ℕ → ℕ → Type 0) (parent : ℕ → ℕ) (x : ℕ) (set : List ℕ) : Type 0 where
  pub labels : (m : ℕ) → Memᴰ m set → m < n
  pub once : Once set
  pub own : Memᴰ x set
  pub within : (u : ℕ) → u < n → R u x → (z : ℕ) × Memᴰ z set × Leads n parent z u
  pub without : (u : ℕ) → u < n → ¬ R u x → (z : ℕ) → Memᴰ z set → ¬ Leads n parent z u
