-- The label asked for: found exactly when one has the name.
use Rattle.std.specs.Prelude.{None, Option, Some}
use Prim.Native.Nat.{ℕ, ◌<◌}
use mathlib.Core.Bool.{Bool, true, false}
use mathlib.Core.List.{List}
use mathlib.Core.Logic.{◌≢◌, ◌⊎◌, inl, inr}
use mathlib.Core.Path.{◌≡◌, refl, sym, ap, ◌∙◌}
use native.Mathlib.Omega.{arith}
use borrow.Author.Tests.{eq-eqb, ne_eqb, eqb-true, eqb-false}
use lib.Dec.{eqb}
use lib.ListN.{length}
use lib.Seq.{take_all}
use Rattle.format.specs.Bytes.{bytes_at}
use Rattle.policy_file.proofs.Names.{name_at, name_none, name_found_lem, name_new}
use Rattle.policy_file.proofs.Lawful.{lawful, name_length}
use Rattle.policy_file.specs.File.{label_named}
use Rattle.policy_file.specs.Whole.{label_count, AcceptedPolicy}
use Rattle.issuer_answers.specs.Keys.{label_asked}
use Rattle.issuer_answers.specs.Rows.{NoLabel, other_length, not_there, LabelOf}

module _ (policy name : List ℕ) where
  -- the search is the policy's, for a name of 8 bytes
  pub asked_eight : (labels : ℕ) → length name ≡ 8 → label_asked policy labels name ≡ label_named policy labels name
  unfolding label_asked
  asked_eight labels e = rw (eq-eqb (length name) 8 e)

  pub asked_other : (labels : ℕ) → length name ≢ 8 → label_asked policy labels name ≡ None
  unfolding label_asked
  asked_other labels ne = rw (ne_eqb (length name) 8 ne)

  eight_or_other : (length name ≡ 8) ⊎ (length name ≢ 8)
  eight_or_other = go (eqb (length name) 8) refl
    where
      go : (b : Bool) → eqb (length name) 8 ≡ b → (length name ≡ 8) ⊎ (length name ≢ 8)
      go true e = inl (eqb-true (length name) 8 e)
      go false e = inr (eqb-false (length name) 8 e)

  -- the name as it is read
  pub asked_read : (labels : ℕ) → length name ≡ 8 → {read : List ℕ} → read ≡ bytes_at name 0 8 → label_named policy labels read ≡ label_asked policy labels name
  asked_read labels e r = ap (label_named policy labels) (r ∙ take_all 8 name (omega arith)) ∙ sym (asked_eight labels e)

  -- a label that is found is one of the labels
  pub asked_below : (labels l : ℕ) → label_asked policy labels name ≡ Some l → l < labels
  asked_below labels l e = go eight_or_other
    where
      go : (length name ≡ 8) ⊎ (length name ≢ 8) → l < labels
      go (inl h) = (name_at policy name labels l (sym (asked_eight labels h) ∙ e)).below
      go (inr ne) = let z : ◌≡◌ {A = ℕ} 0 1 = cc (asked_other labels ne) in absurd (omega arith)

  module _ (ok : AcceptedPolicy policy) where
    -- names are distinct, so the label found is the one that has the name
    pub asked_label : {l : ℕ} → LabelOf policy name l → label_asked policy (label_count policy) name ≡ Some l
    asked_label {l} h =
        let eight : length name ≡ 8 = ap length (sym h.named) ∙ name_length policy ok l h.label in
        let f = name_found_lem policy name (label_count policy) l h.label h.named in
        let at = name_at policy name (label_count policy) f.0 f.1 in
        let same : f.0 ≡ l = (lawful policy ok).distinct f.0 l at.below h.label (at.here ∙ sym h.named) in
        asked_eight (label_count policy) eight ∙ f.1 ∙ ap Some same

    pub asked_none : NoLabel policy name → label_asked policy (label_count policy) name ≡ None
    asked_none (other_length ne) = asked_other (label_count policy) ne
    asked_none (not_there e none) = asked_eight (label_count policy) e ∙ name_new policy name (label_count policy) none

    -- and one of the two holds
    pub asked_either : ((l : ℕ) × LabelOf policy name l) ⊎ NoLabel policy name
    asked_either = go eight_or_other
      where
        search_says : length name ≡ 8 → (f : Option ℕ) → label_named policy (label_count policy) name ≡ f → ((l : ℕ) × LabelOf policy name l) ⊎ NoLabel policy name
        search_says e (Some l) h =
            let at = name_at policy name (label_count policy) l h in
            inl (l, record { accepted = ok; label = at.below; named = at.here })
        search_says e None h = inr (not_there e (name_none policy name (label_count policy) h))

        go : (length name ≡ 8) ⊎ (length name ≢ 8) → ((l : ℕ) × LabelOf policy name l) ⊎ NoLabel policy name
        go (inl e) = search_says e (label_named policy (label_count policy) name) refl
        go (inr ne) = inr (other_length ne)
