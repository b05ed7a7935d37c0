-- What was sealed for a label, opened with an envelope that has the label's key, and with one that has not.
use Prim.Native.Nat.{ℕ, ◌≤◌}
use mathlib.Core.List.{List, ◌++◌}
use mathlib.Core.Path.{◌≡◌, sym, ap, ap₂, ◌∙◌}
use native.Mathlib.Omega.{arith}
use lib.ListN.{length, drop}
use Rattle.buffers.specs.Handed.{wrote, refused_written}
use Rattle.envelope_file.proofs.Demand1.{derived_20}
use Rattle.envelope_file.specs.Derive.{derived_of}
use Rattle.envelope_file.specs.Whole.{AcceptedEnvelope}
use Rattle.envelope_file.specs.declared.Derived.{Derived}
use Rattle.sealed_file.proofs.RoundTrip.{sealed_form, sealed_name, sealed_text_length, sealed_tag, sealed_text_lem}
use Rattle.sealed_file.specs.Sealed.{sealed_file, name_in, text_length, tag_for, text_in}
use Rattle.open_answers.proofs.Answers.{open_refused, open_given, text_kept, text_left}
use Rattle.open_answers.specs.Open.{key_for, opened_of, text_after}
use Rattle.open_answers.specs.Rows.{OpenAnswered, row_20, opened}

module _ (envelope key name nonce text : List ℕ) (eight : length name ≡ 8) (twelve : length nonce ≡ 12) (short : length text ≤ 32768)
    (ok : AcceptedEnvelope envelope) where
  abbrev file : List ℕ
  file = sealed_file key name nonce text

  named : derived_of envelope (name_in file) ≡ derived_of envelope name
  named = ap (derived_of envelope) (sealed_name key name nonce text eight twelve)

  size : text_length file ≡ length text
  size = sealed_text_length key name nonce text eight twelve

  -- with the label's key: the text
  module _ (found : (derived_of envelope name).refusal ≡ 0) (same : (derived_of envelope name).key ≡ key) where
    as_key : key_for envelope file ≡ key
    unfolding key_for
    as_key = ap (λ (d : Derived). d.key) named ∙ same

    row : (room : ℕ) → length text ≤ room → OpenAnswered envelope file room 0
    row room fits =
        opened
        (record { accepted = ok; sealed = sealed_form key name nonce text eight twelve short; named = ap (λ (d : Derived). d.refusal) named ∙ found })
        (omega (arith, size)) (sealed_tag key name nonce text eight twelve ∙ ap (λ (k : List ℕ). tag_for k file) (sym as_key))

    pub opens_sealed : (room : ℕ) → length text ≤ room → opened_of envelope file room ≡ wrote (length text)
    opens_sealed room fits =
        open_given envelope file room (row room fits) (sealed_form key name nonce text eight twelve short) (omega (arith, size)) ∙ ap wrote size

    pub left_sealed : (out : List ℕ) → length text ≤ length out → text_after envelope file out ≡ text ++ drop (length text) out
    left_sealed out fits =
        text_left envelope file out (row (length out) fits) (sealed_form key name nonce text eight twelve short) (omega (arith, size))
        ∙ ap₂ (λ (t : List ℕ) (n : ℕ). t ++ drop n out) (ap (λ (k : List ℕ). text_in k file) as_key ∙ sealed_text_lem key name nonce text eight twelve) size

  -- without the label: 20
  module _ (none : (derived_of envelope name).refusal ≡ 20) where
    row_none : (room : ℕ) → OpenAnswered envelope file room 20
    row_none room =
        row_20 ok (sealed_form key name nonce text eight twelve short)
        ((derived_20 envelope (name_in file) ok).0 (ap (λ (d : Derived). d.refusal) named ∙ none))

    pub refuses_sealed : (room : ℕ) → opened_of envelope file room ≡ refused_written 20
    refuses_sealed room = open_refused envelope file room (omega arith) (row_none room)

    pub kept_sealed : (out : List ℕ) → text_after envelope file out ≡ out
    kept_sealed out = text_kept envelope file out (omega arith) (row_none (length out))
