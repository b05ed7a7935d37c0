-- From what the parts of `seal` answer to its answer and the buffer.
use Prim.Native.Nat.{ℕ, ◌≤◌, ◌<◌}
use mathlib.Core.List.{List}
use mathlib.Core.Logic.{◌≢◌, inl, inr}
use mathlib.Core.Path.{◌≡◌, refl, sym, ap, subst, ◌∙◌}
use native.Mathlib.Omega.{arith}
use lib.ListN.{length}
use lib.Seq.{take_all}
use Rattle.buffers.proofs.Unless.{answer_refused, answer_handed}
use Rattle.buffers.specs.Handed.{refused_written, handed, handed_into}
use Rattle.buffers.specs.declared.Written.{Written}
use Rattle.format.specs.Bytes.{bytes_at}
use Rattle.issuer_answers.proofs.Answers.{key_answered}
use Rattle.issuer_answers.specs.Keys.{issuer_key_of}
use Rattle.issuer_answers.specs.Rows.{KeyAnswered}
use Rattle.issuer_answers.specs.declared.IssuerKey.{IssuerKey}
use Rattle.sealed_file.specs.Sealed.{sealed_file}
use Rattle.seal_answers.proofs.Answers.{refusal_keys, refusal_22, seals_none, key_eight}
use Rattle.seal_answers.specs.Seal.{seal_refusal, label_sealed, sealed_of, file_after}

module _ (policy name root nonce text out : List ℕ) where
  -- the answer and the buffer are those of the definition
  abbrev Sealing : Written → List ℕ → Type 0
  Sealing w after = (w ≡ sealed_of policy name root nonce text (length out)) × (after ≡ file_after policy name root nonce text out)

  by_number : {n : ℕ} {w : Written} → seal_refusal policy name root nonce text ≡ n → 0 < n → w ≡ refused_written n → Sealing w out
  unfolding sealed_of file_after
  by_number e some h = answer_refused (sym e) (label_sealed policy name root nonce text) out some h

  module _ {answer : IssuerKey} (same : answer ≡ issuer_key_of policy name root) where
    answered : KeyAnswered policy name root answer.refusal
    answered = subst (λ (k : IssuerKey). KeyAnswered policy name root k.refusal) (sym same) (key_answered policy name root)

    pub keyless : {w : Written} → 0 < answer.refusal → w ≡ refused_written answer.refusal → Sealing w out
    keyless some h = by_number (refusal_keys policy name root nonce text some answered) some h

    module _ (none : answer.refusal ≡ 0) where
      keyed : KeyAnswered policy name root 0
      keyed = subst (KeyAnswered policy name root) none answered

      pub named : length name ≡ 8
      named = key_eight policy name root nonce text refl keyed

      pub other_nonce : {w : Written} → length nonce ≢ 12 → w ≡ refused_written 22 → Sealing w out
      other_nonce ne h = by_number (refusal_22 policy name root nonce text keyed (inl ne)) (omega arith) h

      pub long_text : {w : Written} → 32768 < length text → w ≡ refused_written 22 → Sealing w out
      long_text long h = by_number (refusal_22 policy name root nonce text keyed (inr long)) (omega arith) h

      pub sealing : length nonce ≡ 12 → length text ≤ 32768 → {named₀ nonce₀ after : List ℕ} {w : Written} → named₀ ≡ bytes_at name 0 8 → nonce₀ ≡ bytes_at nonce 0 12
          → w ≡ handed (sealed_file answer.key named₀ nonce₀ text) (length out) → after ≡ handed_into (sealed_file answer.key named₀ nonce₀ text) out
          → Sealing w after
      unfolding sealed_of file_after label_sealed
      sealing twelve short {named₀} {nonce₀} n m h f =
          let whole : named₀ ≡ name = n ∙ take_all 8 name (omega (arith, named)) in
          let nonces : nonce₀ ≡ nonce = m ∙ take_all 12 nonce (omega (arith, twelve)) in
          let file : sealed_file answer.key named₀ nonce₀ text ≡ sealed_file (issuer_key_of policy name root).key name nonce text =
          ap (λ (k : IssuerKey). sealed_file k.key named₀ nonce₀ text) same
          ∙ ap (λ (s : List ℕ). sealed_file (issuer_key_of policy name root).key s nonce₀ text) whole
          ∙ ap (λ (s : List ℕ). sealed_file (issuer_key_of policy name root).key name s text) nonces in
          answer_handed (sym (seals_none policy name root nonce text (record { keyed = keyed; nonces = twelve; short = short })))
          (label_sealed policy name root nonce text) out refl
          (h ∙ ap (λ (s : List ℕ). handed s (length out)) file) (f ∙ ap (λ (s : List ℕ). handed_into s out) file)
