-- What `seal` answers and leaves, row by row.
use Prim.Native.Nat.{ℕ, ◌+◌, ◌≤◌, ◌<◌}
use mathlib.Core.Bool.{Bool, true, false}
use mathlib.Core.List.{List, ◌++◌}
use mathlib.Core.Logic.{◌⊎◌, inl, inr}
use mathlib.Core.Path.{◌≡◌, refl, sym, ap, subst, ◌∙◌}
use native.Mathlib.Decide.{ℕ_discrete}
use native.Mathlib.Omega.{arith}
use borrow.Author.Tests.{eq-eqb, ne_eqb, leb-true, leb-false}
use lib.Dec.{leb}
use lib.ListN.{length, drop}
use Rattle.buffers.proofs.Handed.{handed_none, unless_none, unless_refused}
use Rattle.buffers.proofs.Unless.{unless_given, unless_filled, unless_unchanged}
use Rattle.buffers.specs.Handed.{wrote, refused_written}
use Rattle.issuer_answers.proofs.Answers.{key_answered}
use Rattle.issuer_answers.proofs.Words.{key_only}
use Rattle.issuer_answers.specs.Keys.{issuer_key_of}
use Rattle.issuer_answers.specs.Rows.{KeyAnswered, policys, row_13, row_15, given}
use Rattle.policy_file.proofs.Lawful.{name_length}
use Rattle.sealed_file.proofs.RoundTrip.{sealed_length}
use Rattle.sealed_file.proofs.Rows.{text_none, text_22, text_or_not}
use Rattle.sealed_file.specs.Rows.{NoText}
use Rattle.sealed_file.specs.Sealed.{text_refusal}
use Rattle.seal_answers.specs.Seal.{seal_refusal, label_sealed, sealed_of, file_after}
use Rattle.seal_answers.specs.Rows.{Seals, SealAnswered, keys, row_22, row_16, written}

module _ (policy name root nonce text : List ℕ) where
  -- the number before the buffer's
  pub refusal_keys : {n : ℕ} → 0 < n → KeyAnswered policy name root n → seal_refusal policy name root nonce text ≡ n
  unfolding seal_refusal
  refusal_keys some h = let e = key_only policy name root h in rw (ne_eqb (issuer_key_of policy name root).refusal 0 (λ z. omega (arith, e))) e

  refusal_text : KeyAnswered policy name root 0 → seal_refusal policy name root nonce text ≡ text_refusal nonce text
  unfolding seal_refusal
  refusal_text h = rw (eq-eqb (issuer_key_of policy name root).refusal 0 (key_only policy name root h))

  pub refusal_22 : KeyAnswered policy name root 0 → NoText nonce text → seal_refusal policy name root nonce text ≡ 22
  refusal_22 h none = refusal_text h ∙ text_22 nonce text none

  pub seals_none : Seals policy name root nonce text → seal_refusal policy name root nonce text ≡ 0
  seals_none h = refusal_text h.keyed ∙ text_none nonce text h.nonces h.short

  -- a name that has a key has 8 bytes
  pub key_eight : {n : ℕ} → n ≡ 0 → KeyAnswered policy name root n → length name ≡ 8
  key_eight z (policys bad) = absurd (omega arith)
  key_eight z (row_13 ok none) = absurd (omega arith)
  key_eight z (row_15 h ne) = absurd (omega arith)
  key_eight z (given {l} h e) = sym (ap length h.named) ∙ name_length policy h.accepted l h.label

  -- the file is as long as the rows say
  pub label_sealed_length : Seals policy name root nonce text → length (label_sealed policy name root nonce text) ≡ 38 + length text
  unfolding label_sealed
  label_sealed_length h = sealed_length (issuer_key_of policy name root).key name nonce text (key_eight refl h.keyed) h.nonces

  module _ (room : ℕ) where
    -- some row holds
    pub row_holds : (n : ℕ) × SealAnswered policy name root nonce text room n
    row_holds = go (ℕ_discrete (issuer_key_of policy name root).refusal 0)
      where
        rooms : Seals policy name root nonce text → (b : Bool) → leb (38 + length text) room ≡ b → (n : ℕ) × SealAnswered policy name root nonce text room n
        rooms h true e = (0, written h (leb-true (38 + length text) room e))
        rooms h false e = (16, row_16 h (leb-false (38 + length text) room e))

        texts : KeyAnswered policy name root 0 → ((length nonce ≡ 12) × (length text ≤ 32768)) ⊎ NoText nonce text → (n : ℕ) × SealAnswered policy name root nonce text room n
        texts k (inl h) = rooms (record { keyed = k; nonces = h.0; short = h.1 }) (leb (38 + length text) room) refl
        texts k (inr none) = (22, row_22 k none)

        go : Dec ((issuer_key_of policy name root).refusal ≡ 0) → (n : ℕ) × SealAnswered policy name root nonce text room n
        go (yes e) = texts (subst (KeyAnswered policy name root) e (key_answered policy name root)) (text_or_not nonce text)
        go (no ne) = ((issuer_key_of policy name root).refusal, keys {n = (issuer_key_of policy name root).refusal} (omega arith) (key_answered policy name root))

    -- what is answered with each
    pub seal_refused : {n : ℕ} → 0 < n → SealAnswered policy name root nonce text room n → sealed_of policy name root nonce text room ≡ refused_written n
    unfolding sealed_of
    seal_refused some (keys _ h) =
        let e = refusal_keys some h in unless_refused (label_sealed policy name root nonce text) room (omega (arith, e)) ∙ ap refused_written e
    seal_refused some (row_22 k none) =
        let e = refusal_22 k none in unless_refused (label_sealed policy name root nonce text) room (omega (arith, e)) ∙ ap refused_written e
    seal_refused some (row_16 h short) =
        let file = label_sealed policy name root nonce text in
        unless_none file room (seals_none h) ∙ sym (handed_none file room (omega (arith, label_sealed_length h)))
    seal_refused some (written h fits) = absurd (omega arith)

    pub seal_given : Seals policy name root nonce text → 38 + length text ≤ room → sealed_of policy name root nonce text room ≡ wrote (38 + length text)
    unfolding sealed_of
    seal_given h fits =
        let size = label_sealed_length h in
        unless_given (seal_refusal policy name root nonce text) (seals_none h) (label_sealed policy name root nonce text) room (omega (arith, size))
        ∙ ap wrote size

  -- what is left in the buffer
  module _ (out : List ℕ) where
    pub file_kept : 0 < (sealed_of policy name root nonce text (length out)).refusal → file_after policy name root nonce text out ≡ out
    unfolding sealed_of file_after
    file_kept some = unless_unchanged (seal_refusal policy name root nonce text) (label_sealed policy name root nonce text) out some

    pub file_left : Seals policy name root nonce text → 38 + length text ≤ length out
        → file_after policy name root nonce text out ≡ label_sealed policy name root nonce text ++ drop (38 + length text) out
    unfolding file_after
    file_left h fits =
        let file = label_sealed policy name root nonce text in
        let size = label_sealed_length h in
        unless_filled (seal_refusal policy name root nonce text) (seals_none h) file out (omega (arith, size))
        ∙ ap (λ (n : ℕ). file ++ drop n out) size
