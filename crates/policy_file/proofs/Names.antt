-- Laws of the names of labels.
use Rattle.std.specs.Prelude.{None, Some}
use Prim.Native.Nat.{ℕ, ◌<◌}
use mathlib.Core.List.{List}
use mathlib.Core.Logic.{◌≢◌}
use mathlib.Core.Path.{◌≡◌, refl}
use Rattle.format.proofs.Named.{NamedAt, named_at, named_none, named_found, named_new}
use Rattle.policy_file.specs.File.{name_of, is_named, label_named}

-- what a search for a label's name says
module _ (file name : List ℕ) (labels : ℕ) where
  pub name_at : (k : ℕ) → label_named file labels name ≡ Some k → NamedAt (name_of file) name labels k
  unfolding label_named is_named
  name_at = named_at (is_named file name) (name_of file) name (λ i. refl) labels

  pub name_none : label_named file labels name ≡ None → (i : ℕ) → i < labels → name_of file i ≢ name
  unfolding label_named is_named
  name_none = named_none (is_named file name) (name_of file) name (λ i. refl) labels

  pub name_found_lem : (i : ℕ) → i < labels → name_of file i ≡ name → (k : ℕ) × (label_named file labels name ≡ Some k)
  unfolding label_named is_named
  name_found_lem = named_found (is_named file name) (name_of file) name (λ i. refl) labels

  pub name_new : ((i : ℕ) → i < labels → name_of file i ≢ name) → label_named file labels name ≡ None
  unfolding label_named is_named
  name_new = named_new (is_named file name) (name_of file) name (λ i. refl) labels
