-- From what the parts of `open` answer to its answer and the buffer.
use Prim.Native.Nat.{ℕ, ◌-◌, ◌≤◌, ◌<◌}
use mathlib.Core.Bool.{true, false}
use mathlib.Core.List.{List}
use mathlib.Core.Path.{◌≡◌, refl, sym, ap, ap₂, subst, ◌∙◌}
use native.Mathlib.Omega.{arith}
use borrow.Author.Tests.{eq-eqb, ne_eqb, le-leb, lt-leb}
use lib.ListN.{length}
use Rattle.aead.specs.Aead.{ciphered}
use Rattle.buffers.proofs.Handing.{put_handed}
use Rattle.buffers.proofs.Unless.{answer_refused, answer_handed}
use Rattle.buffers.specs.Handed.{wrote, refused_written, written_unless, buffer_unless}
use Rattle.buffers.specs.Put.{Put}
use Rattle.buffers.specs.declared.Written.{Written}
use Rattle.envelope_file.specs.Derive.{derived_of}
use Rattle.envelope_file.specs.Whole.{envelope_refusal, contents_of, AcceptedEnvelope}
use Rattle.envelope_file.specs.declared.Contents.{Contents}
use Rattle.envelope_file.specs.declared.Derived.{Derived}
use Rattle.format.specs.Bytes.{bytes_at}
use Rattle.sealed_file.proofs.Parts.{text_size, cipher_part}
use Rattle.sealed_file.specs.Rows.{Sealed}
use Rattle.sealed_file.specs.Sealed.{name_in, nonce_in, text_length, cipher_in, sealed_refusal, tag_holds, text_in}
use Rattle.open_answers.specs.Open.{key_for, unopened, unread, open_refusal, opened_of, text_after}

-- under a key: the buffer's refusal, the tag's, or the text
module _ (key file out : List ℕ) (s : Sealed file) where
  abbrev pub Under : Written → List ℕ → Type 0
  Under w after =
      (w ≡ written_unless (unread key file (length out)) (text_in key file) (length out))
      × (after ≡ buffer_unless (unread key file (length out)) (text_in key file) out)

  pub no_room : {w : Written} → length out < length file - 16 - 22 → w ≡ refused_written 16 → Under w out
  unfolding unread
  no_room h e =
      let short : length out < text_length file = omega (arith, text_size file s) in
      answer_refused (rw (lt-leb (text_length file) (length out) short)) (text_in key file) out (omega arith) e

  module _ (fits : length file - 16 - 22 ≤ length out) where
    room : text_length file ≤ length out
    room = omega (arith, text_size file s)

    pub other_tag : {w : Written} → tag_holds key file ≡ false → w ≡ refused_written 23 → Under w out
    unfolding unread
    other_tag t e = answer_refused (rw (le-leb (text_length file) (length out) room, t)) (text_in key file) out (omega arith) e

    pub given : tag_holds key file ≡ true → {nonce after : List ℕ} {end : ℕ} → nonce ≡ nonce_in file
        → Put out after 0 (ciphered key nonce (bytes_at file 22 (length file - 16 - 22))) end → Under (wrote end) after
    unfolding unread text_in
    given t {nonce} {after} {end} e p =
        let text : ciphered key nonce (bytes_at file 22 (length file - 16 - 22)) ≡ ciphered key (nonce_in file) (cipher_in file) =
        ap₂ (ciphered key) e (cipher_part file s) in
        let handing = put_handed (ciphered key (nonce_in file) (cipher_in file)) out (subst (λ (m : List ℕ). Put out after 0 m end) text p) in
        answer_handed (rw (le-leb (text_length file) (length out) room, t)) (text_in key file) out refl handing.0 handing.1

-- the whole: the envelope's refusal, 22, 20, or what is answered under the key
module _ (envelope file out : List ℕ) where
  abbrev pub Opening : Written → List ℕ → Type 0
  Opening w after = (w ≡ opened_of envelope file (length out)) × (after ≡ text_after envelope file out)

  before : {n : ℕ} → n ≡ unopened envelope file → 0 < n → {w : Written} → w ≡ refused_written n → Opening w out
  unfolding opened_of text_after open_refusal
  before {n} e some h =
      answer_refused (e ∙ rw (ne_eqb (unopened envelope file) 0 (λ z. omega (arith, e)))) (text_in (key_for envelope file) file) out some h

  module _ {read : Contents} (same : read ≡ contents_of envelope) where
    number : read.refusal ≡ envelope_refusal envelope
    number = ap (λ (c : Contents). c.refusal) same

    pub envelope_refused : 0 < read.refusal → {w : Written} → w ≡ refused_written read.refusal → Opening w out
    unfolding unopened
    envelope_refused some h = before (rw (ne_eqb (envelope_refusal envelope) 0 (λ z. omega (arith, number))) number) some h

    module _ (none : read.refusal ≡ 0) where
      accepted : AcceptedEnvelope envelope
      accepted = sym number ∙ none

      pub form_refused : {form : ℕ} → form ≡ sealed_refusal file → 0 < form → {w : Written} → w ≡ refused_written form → Opening w out
      unfolding unopened
      form_refused e some h =
          before (rw (eq-eqb (envelope_refusal envelope) 0 accepted, ne_eqb (sealed_refusal file) 0 (λ z. omega (arith, e))) e) some h

      module _ {form : ℕ} (as-form : form ≡ sealed_refusal file) (formed : form ≡ 0) {derived : Derived} (found : derived ≡ derived_of envelope (name_in file)) where
        unopened_found : unopened envelope file ≡ derived.refusal
        unfolding unopened
        unopened_found =
            rw (eq-eqb (envelope_refusal envelope) 0 accepted, eq-eqb (sealed_refusal file) 0 (sym as-form ∙ formed))
            (sym (ap (λ (d : Derived). d.refusal) found))

        pub label_refused : 0 < derived.refusal → {w : Written} → w ≡ refused_written derived.refusal → Opening w out
        label_refused some h = before (sym unopened_found) some h

        pub opened_under : derived.refusal ≡ 0 → {w : Written} {after : List ℕ}
            → w ≡ written_unless (unread derived.key file (length out)) (text_in derived.key file) (length out)
            → after ≡ buffer_unless (unread derived.key file (length out)) (text_in derived.key file) out
            → Opening w after
        unfolding opened_of text_after open_refusal key_for
        opened_under z h f =
            let key : derived.key ≡ (derived_of envelope (name_in file)).key = ap (λ (d : Derived). d.key) found in (
              h ∙ rw (eq-eqb (unopened envelope file) 0 (unopened_found ∙ z), key),
              f ∙ rw (eq-eqb (unopened envelope file) 0 (unopened_found ∙ z), key),
            )
