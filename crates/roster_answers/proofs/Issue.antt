-- What an account of a roster is refused under where a label is asked for.
use Prim.Native.Nat.{ℕ}
use mathlib.Core.Bool.{false}
use mathlib.Core.List.{List}
use mathlib.Core.Logic.{◌≢◌}
use mathlib.Core.Path.{◌≡◌, refl, sym, ap, ◌∙◌}
use native.Mathlib.Decide.{ℕ_discrete}
use native.Mathlib.Omega.{arith}
use borrow.Author.Tests.{eq-eqb, ne_eqb}
use lib.ListN.{length}
use Rattle.roster_file.specs.Counts.{is_on}
use Rattle.roster_file.specs.declared.Activity.TheVariants.{Active, Held}
use Rattle.roster_file.specs.declared.Activity.{Activity}
use Rattle.roster_file.specs.declared.Standing.TheVariants.{Unknown, Withdrawn, On}
use Rattle.roster_file.specs.declared.Standing.{Standing}
use Rattle.roster_answers.specs.Issue.{activity_refusal, standing_refusal}

-- "14 means that the account is not on the named label"
pub standing_14 : (s : Standing) (root : List ℕ) (l : ℕ) → is_on l s ≡ false → standing_refusal s root l ≡ 14
standing_14 Unknown root l e = refl
standing_14 Withdrawn root l e = refl
standing_14 (On m activity) root l e = rw e

module _ (root : List ℕ) where
  -- "26: issue to a held account"; 15, "root secret not 32 bytes"
  pub held_26 : activity_refusal Held root ≡ 26
  held_26 = refl

  pub active_15 : length root ≢ 32 → activity_refusal Active root ≡ 15
  active_15 ne = rw (ne_eqb (length root) 32 ne)

  pub active_given : length root ≡ 32 → activity_refusal Active root ≡ 0
  active_given e = rw (eq-eqb (length root) 32 e)

  pub standing_on : (l : ℕ) (activity : Activity) → standing_refusal (On l activity) root l ≡ activity_refusal activity root
  standing_on l activity = rw (eq-eqb l l refl)

  -- where it is not refused, the root secret has 32 bytes
  activity_whole : (activity : Activity) → activity_refusal activity root ≡ 0 → length root ≡ 32
  activity_whole Held none = absurd (omega (arith, held_26))
  activity_whole Active none = go (ℕ_discrete (length root) 32)
    where
      go : Dec (length root ≡ 32) → length root ≡ 32
      go (yes e) = e
      go (no ne) = absurd (omega (arith, active_15 ne))

  placed_whole : (m l : ℕ) (activity : Activity) → standing_refusal (On m activity) root l ≡ 0 → length root ≡ 32
  placed_whole m l activity none = go (ℕ_discrete m l)
    where
      go : Dec (m ≡ l) → length root ≡ 32
      go (yes e) = activity_whole activity (sym (standing_on l activity) ∙ ap (λ (k : ℕ). standing_refusal (On k activity) root l) (sym e) ∙ none)
      go (no ne) = absurd (omega (arith, standing_14 (On m activity) root l (ne_eqb m l ne)))

pub standing_whole : (s : Standing) (root : List ℕ) (l : ℕ) {n : ℕ} → n ≡ standing_refusal s root l → n ≡ 0 → length root ≡ 32
standing_whole Unknown root l e none = absurd (omega (arith, standing_14 Unknown root l refl))
standing_whole Withdrawn root l e none = absurd (omega (arith, standing_14 Withdrawn root l refl))
standing_whole (On m activity) root l e none = placed_whole root m l activity (sym e ∙ none)
