-- What `open` answers and leaves, row by row.
use Prim.Native.Nat.{ℕ, ◌≤◌, ◌<◌}
use mathlib.Core.Bool.{Bool, true, false}
use mathlib.Core.List.{List, ◌++◌}
use mathlib.Core.Logic.{◌≢◌, ◌⊎◌, inl, inr}
use mathlib.Core.Path.{◌≡◌, refl, sym, ap, ◌∙◌}
use native.Mathlib.Decide.{ℕ_discrete}
use native.Mathlib.Omega.{arith}
use borrow.Author.Tests.{eq-eqb, ne_eqb, le-leb, lt-leb, leb-true, leb-false}
use lib.Dec.{leb}
use lib.ListN.{length, drop}
use Rattle.buffers.proofs.Handed.{unless_refused, unless_left}
use Rattle.buffers.proofs.Unless.{unless_given, unless_filled}
use Rattle.buffers.specs.Handed.{wrote, refused_written}
use Rattle.envelope_file.proofs.Asked.{Asking, no_envelope, not_there, there, asking}
use Rattle.envelope_file.proofs.Demand1.{derived_20}
use Rattle.envelope_file.specs.Derive.{derived_at, derived_of}
use Rattle.envelope_file.specs.Rows.{NotIn}
use Rattle.envelope_file.specs.Whole.{envelope_refusal, records_of, AcceptedEnvelope}
use Rattle.envelope_file.specs.declared.Derived.{Derived}
use Rattle.sealed_file.proofs.Rows.{sealed_or_not, sealed_none, sealed_22, tag_same, tag_differs, tag-same?}
use Rattle.sealed_file.proofs.RoundTrip.{text_length_lem}
use Rattle.sealed_file.specs.Rows.{NotSealed, Sealed}
use Rattle.sealed_file.specs.Sealed.{name_in, text_length, tag_in, tag_for, text_in}
use Rattle.open_answers.specs.Open.{key_for, unopened, unread, open_refusal, opened_of, text_after}
use Rattle.open_answers.specs.Rows.{Opens, OpenAnswered, envelopes, row_22, row_20, row_16, row_23, opened}

module _ (envelope file : List ℕ) where
  -- the number before the buffer's
  unopened_envelope : 0 < envelope_refusal envelope → unopened envelope file ≡ envelope_refusal envelope
  unfolding unopened
  unopened_envelope bad = rw (ne_eqb (envelope_refusal envelope) 0 (λ e. omega arith))

  unopened_22 : AcceptedEnvelope envelope → NotSealed file → unopened envelope file ≡ 22
  unfolding unopened
  unopened_22 ok h = rw (eq-eqb (envelope_refusal envelope) 0 ok, sealed_22 file h)

  unopened_named : AcceptedEnvelope envelope → Sealed file → unopened envelope file ≡ (derived_of envelope (name_in file)).refusal
  unfolding unopened
  unopened_named ok h = rw (eq-eqb (envelope_refusal envelope) 0 ok, sealed_none file h)

  unopened_20 : AcceptedEnvelope envelope → Sealed file → NotIn envelope (records_of envelope) (name_in file) → unopened envelope file ≡ 20
  unopened_20 ok h none = unopened_named ok h ∙ (derived_20 envelope (name_in file) ok).1 none

  opens_none : Opens envelope file → unopened envelope file ≡ 0
  opens_none h = unopened_named h.accepted h.sealed ∙ h.named

  -- the buffer's and the tag's
  module _ (key : List ℕ) (room : ℕ) where
    unread_16 : room < text_length file → unread key file room ≡ 16
    unfolding unread
    unread_16 h = rw (lt-leb (text_length file) room h)

    unread_23 : text_length file ≤ room → tag_in file ≢ tag_for key file → unread key file room ≡ 23
    unfolding unread
    unread_23 h ne = rw (le-leb (text_length file) room h, tag_differs key file ne)

    unread_none : text_length file ≤ room → tag_in file ≡ tag_for key file → unread key file room ≡ 0
    unfolding unread
    unread_none h e = rw (le-leb (text_length file) room h, tag_same key file e)

  module _ (room : ℕ) where
    before : 0 < unopened envelope file → open_refusal envelope file room ≡ unopened envelope file
    unfolding open_refusal
    before h = rw (ne_eqb (unopened envelope file) 0 (λ e. omega arith))

    behind : Opens envelope file → open_refusal envelope file room ≡ unread (key_for envelope file) file room
    unfolding open_refusal
    behind h = rw (eq-eqb (unopened envelope file) 0 (opens_none h))

    -- a row that holds gives its number
    pub row_number : {n : ℕ} → OpenAnswered envelope file room n → open_refusal envelope file room ≡ n
    row_number (envelopes bad) = let e = unopened_envelope bad in before (omega (arith, e)) ∙ e
    row_number (row_22 ok h) = let e = unopened_22 ok h in before (omega (arith, e)) ∙ e
    row_number (row_20 ok h none) = let e = unopened_20 ok h none in before (omega (arith, e)) ∙ e
    row_number (row_16 h short) = behind h ∙ unread_16 (key_for envelope file) room short
    row_number (row_23 h fits ne) = behind h ∙ unread_23 (key_for envelope file) room fits ne
    row_number (opened h fits e) = behind h ∙ unread_none (key_for envelope file) room fits e

    -- some row holds
    pub row_holds : (n : ℕ) × OpenAnswered envelope file room n
    unfolding derived_at
    row_holds = go (ℕ_discrete (envelope_refusal envelope) 0)
      where
        tags : Opens envelope file → text_length file ≤ room → Dec (tag_in file ≡ tag_for (key_for envelope file) file) → (n : ℕ) × OpenAnswered envelope file room n
        tags h fits (yes e) = (0, opened h fits e)
        tags h fits (no ne) = (23, row_23 h fits ne)

        rooms : Opens envelope file → (b : Bool) → leb (text_length file) room ≡ b → (n : ℕ) × OpenAnswered envelope file room n
        rooms h true e = tags h (leb-true (text_length file) room e) (tag-same? (key_for envelope file) file)
        rooms h false e = (16, row_16 h (leb-false (text_length file) room e))

        asked : AcceptedEnvelope envelope → Sealed file → {d : Derived} → d ≡ derived_of envelope (name_in file) → Asking envelope (name_in file) d → (n : ℕ) × OpenAnswered envelope file room n
        asked ok h e (no_envelope bad) = absurd (omega arith)
        asked ok h e (not_there _ none) = (20, row_20 ok h none)
        asked ok h e (there _ at) = rooms (record { accepted = ok; sealed = h; named = sym (ap (λ (d : Derived). d.refusal) e) }) (leb (text_length file) room) refl

        sealed : AcceptedEnvelope envelope → Sealed file ⊎ NotSealed file → (n : ℕ) × OpenAnswered envelope file room n
        sealed ok (inl h) = asked ok h refl (asking envelope (name_in file))
        sealed ok (inr none) = (22, row_22 ok none)

        go : Dec (envelope_refusal envelope ≡ 0) → (n : ℕ) × OpenAnswered envelope file room n
        go (yes ok) = sealed ok (sealed_or_not file)
        go (no ne) = (envelope_refusal envelope, envelopes (omega arith))

    -- a row with a number above 0: the answer has it and a 0
    pub open_refused : {n : ℕ} → 0 < n → OpenAnswered envelope file room n → opened_of envelope file room ≡ refused_written n
    unfolding opened_of
    open_refused {n} some h =
        let e = row_number h in
        unless_refused (text_in (key_for envelope file) file) room (omega (arith, e)) ∙ ap refused_written e

    -- the row with 0: the length of the text
    pub open_given : OpenAnswered envelope file room 0 → Sealed file → text_length file ≤ room → opened_of envelope file room ≡ wrote (text_length file)
    unfolding opened_of
    open_given h s fits =
        let key = key_for envelope file in
        let size = text_length_lem key file s in
        unless_given (open_refusal envelope file room) (row_number h) (text_in key file) room (omega (arith, size)) ∙ ap wrote size

  -- what is left in the buffer
  module _ (out : List ℕ) where
    pub text_kept : {n : ℕ} → 0 < n → OpenAnswered envelope file (length out) n → text_after envelope file out ≡ out
    unfolding text_after
    text_kept some h = unless_left (text_in (key_for envelope file) file) out (omega (arith, row_number (length out) h))

    pub text_left : OpenAnswered envelope file (length out) 0 → Sealed file → text_length file ≤ length out
        → text_after envelope file out ≡ text_in (key_for envelope file) file ++ drop (text_length file) out
    unfolding text_after
    text_left h s fits =
        let key = key_for envelope file in
        let size = text_length_lem key file s in
        unless_filled (open_refusal envelope file (length out)) (row_number (length out) h) (text_in key file) out (omega (arith, size))
        ∙ ap (λ (n : ℕ). text_in key file ++ drop n out) size
