-- The record of a name asked for: found exactly when one carries the name, and what `derive` answers then.
use Rattle.std.specs.Prelude.{None, Option, Some}
use Prim.Native.Nat.{ℕ, ◌<◌}
use mathlib.Core.Bool.{Bool, cond}
use mathlib.Core.List.{List}
use mathlib.Core.Logic.{◌↔◌, ◌≢◌}
use mathlib.Core.Path.{◌≡◌, refl, sym, ap, ◌∙◌}
use native.Mathlib.Decide.{ℕ_discrete}
use native.Mathlib.Omega.{arith}
use borrow.Author.Tests.{eq-eqb, ne_eqb}
use lib.ListN.{length}
use Rattle.envelope_file.proofs.Meaning.{name_none, name_new}
use Rattle.envelope_file.specs.Derive.{refused_derived, derived_at, on_found, record_asked, derived_of}
use Rattle.envelope_file.specs.File.{record_named}
use Rattle.envelope_file.specs.Rows.{NotIn, other_length, not_carried}
use Rattle.envelope_file.specs.Whole.{envelope_refusal, records_of, AcceptedEnvelope}
use Rattle.envelope_file.specs.declared.Derived.{Derived}

module _ (file : List ℕ) (n : ℕ) (name : List ℕ) where
  pub asked_whole : length name ≡ 8 → record_asked file n name ≡ record_named file n name
  unfolding record_asked
  asked_whole e = ap (λ (b : Bool). cond b (record_named file n name) None) (eq-eqb (length name) 8 e)

  asked_other : length name ≢ 8 → record_asked file n name ≡ None
  unfolding record_asked
  asked_other d = ap (λ (b : Bool). cond b (record_named file n name) None) (ne_eqb (length name) 8 d)

  pub asked_none : (record_asked file n name ≡ None) ↔ NotIn file n name
  asked_none = (λ e. go (ℕ_discrete (length name) 8) e, back)
    where
      go : Dec (length name ≡ 8) → record_asked file n name ≡ None → NotIn file n name
      go (yes w) e = not_carried w (name_none file name n (sym (asked_whole w) ∙ e))
      go (no d) e = other_length d

      back : NotIn file n name → record_asked file n name ≡ None
      back (other_length d) = asked_other d
      back (not_carried w new) = asked_whole w ∙ name_new file name n new

  pub asked_at : (k : ℕ) → record_asked file n name ≡ Some k → record_named file n name ≡ Some k
  asked_at k e = go (ℕ_discrete (length name) 8)
    where
      go : Dec (length name ≡ 8) → record_named file n name ≡ Some k
      go (yes w) = sym (asked_whole w) ∙ e
      go (no d) = let z : ◌≡◌ {A = ℕ} 0 1 = cc (asked_other d) in absurd (omega arith)

-- the envelope's refusal comes first, then the search
module _ (file name : List ℕ) where
  pub asked_refused : 0 < envelope_refusal file → derived_of file name ≡ refused_derived (envelope_refusal file)
  unfolding derived_of
  asked_refused h = rw (ne_eqb (envelope_refusal file) 0 (λ e. omega arith))

  pub asked_read : AcceptedEnvelope file → (f : Option ℕ) → record_asked file (records_of file) name ≡ f → derived_of file name ≡ on_found file f
  unfolding derived_of
  asked_read ok f e =
      ap (λ (b : Bool). cond b (on_found file (record_asked file (records_of file) name)) (refused_derived (envelope_refusal file)))
      (eq-eqb (envelope_refusal file) 0 ok)
      ∙ ap (on_found file) e

  -- what `derive` answers: the envelope's refusal, or what the search leads to
  pub data Asking : Derived → Type 0 where
    no_envelope : 0 < envelope_refusal file → Asking (refused_derived (envelope_refusal file))
    not_there : AcceptedEnvelope file → NotIn file (records_of file) name → Asking (refused_derived 20)
    there : {k : ℕ} → AcceptedEnvelope file → record_asked file (records_of file) name ≡ Some k → Asking (derived_at file k)

  pub asking : Asking (derived_of file name)
  asking = go (ℕ_discrete (envelope_refusal file) 0) (record_asked file (records_of file) name) refl
    where
      go : Dec (envelope_refusal file ≡ 0) → (f : Option ℕ) → record_asked file (records_of file) name ≡ f → Asking (derived_of file name)
      go (no d) f e = let h : 0 < envelope_refusal file = omega arith in rw (asked_refused h) (no_envelope h)
      go (yes ok) (Some k) e = rw (asked_read ok (Some k) e) (there ok e)
      go (yes ok) None e = rw (asked_read ok None e) (not_there ok ((asked_none file (records_of file) name).0 e))
