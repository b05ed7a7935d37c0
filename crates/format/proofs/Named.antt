-- Laws of a search for a name: p asks whether the name at a place is the one that is looked for.
use Rattle.std.specs.Prelude.{None, Option, Some}
use Prim.Native.Nat.{ℕ, ◌<◌}
use mathlib.Core.Bool.{Bool, false, false≢true}
use mathlib.Core.List.{List}
use mathlib.Core.Logic.{◌≢◌}
use mathlib.Core.Path.{◌≡◌, refl, sym, ◌∙◌}
use native.Mathlib.Omega.{arith}
use Rattle.format.proofs.Bytes.{same_eq, same_true}
use Rattle.format.proofs.Search.{not_found, found_at}
use Rattle.format.specs.Bytes.{same_bytes}
use Rattle.format.specs.Search.{first_from}

-- what a place says at which a name was found
pub record NamedAt (names : ℕ → List ℕ) (name : List ℕ) (n k : ℕ) : Type 0 where
  pub below : k < n
  pub here : names k ≡ name
  pub first : (i : ℕ) → i < k → names i ≢ name

module _ (p : ℕ → Bool) (names : ℕ → List ℕ) (name : List ℕ) (asks : (i : ℕ) → p i ≡ same_bytes (names i) name) (n : ℕ) where
  unlike : (i : ℕ) → p i ≡ false → names i ≢ name
  unlike i f e = false≢true (sym f ∙ asks i ∙ same_true (names i) name e)

  pub named_at : (k : ℕ) → first_from p 0 n ≡ Some k → NamedAt names name n k
  named_at k h =
      let at = found_at p n 0 k h in
      record {
        below = omega (arith, at.below);
        here = same_eq (names k) name (sym (asks k) ∙ at.here);
        first = λ i l. unlike i (at.before i (omega arith) l);
      }

  pub named_none : first_from p 0 n ≡ None → (i : ℕ) → i < n → names i ≢ name
  named_none h i l = unlike i (not_found p n 0 h i (omega arith) (omega arith))

  pub named_found : (i : ℕ) → i < n → names i ≡ name → (k : ℕ) × (first_from p 0 n ≡ Some k)
  named_found i l e = go (first_from p 0 n) refl
    where
      go : (f : Option ℕ) → first_from p 0 n ≡ f → (k : ℕ) × (first_from p 0 n ≡ Some k)
      go (Some k) h = (k, h)
      go None h = absurd (named_none h i l e)

  pub named_new : ((i : ℕ) → i < n → names i ≢ name) → first_from p 0 n ≡ None
  named_new new = go (first_from p 0 n) refl
    where
      go : (f : Option ℕ) → first_from p 0 n ≡ f → f ≡ None
      go (Some k) h = let at = named_at k h in absurd (new k at.below at.here)
      go None h = refl
