-- The promise of 02's Ask 2, from demand 2 and the laws of sealed files.
use Prim.Native.Nat.{ℕ, ◌+◌, ◌≤◌, ◌<◌}
use mathlib.Core.List.{List, ◌++◌}
use mathlib.Core.Path.{◌≡◌, refl, sym, ap, ◌∙◌}
use native.Mathlib.Omega.{arith}
use lib.ListN.{length, drop}
use Rattle.buffers.specs.Handed.{wrote}
use Rattle.envelope_file.specs.declared.Derived.{Derived}
use Rattle.issuer_answers.specs.Issue.{account_envelope}
use Rattle.issuer_answers.specs.Keys.{issuer_key_of}
use Rattle.issuer_answers.specs.Rows.{given}
use Rattle.open_answers.proofs.Sealed.{opens_sealed, left_sealed, refuses_sealed, kept_sealed}
use Rattle.policy_file.proofs.Lawful.{name_length}
use Rattle.policy_file.specs.File.{name_of}
use Rattle.policy_file.specs.Whole.{AcceptedPolicy, label_count}
use Rattle.seal_answers.proofs.Answers.{label_sealed_length, seal_given, file_left}
use Rattle.seal_answers.specs.Rows.{Seals}
use Rattle.seal_answers.specs.Seal.{label_sealed}
use Rattle.claims.specs.Demand2.{OfEnvelope}
use Rattle.claims.specs.Sealed.{OfSeal, OfOpen, Ask2}
use Rattle.claims.proofs.Demand2.{of_envelope}

abbrev number : Derived → ℕ
number d = d.refusal

module _ (policy : List ℕ) (ok : AcceptedPolicy policy) (root nonce text : List ℕ) (m : ℕ) (whole : length root ≡ 32) (twelve : length nonce ≡ 12)
    (short : length text ≤ 32768) (label : m < label_count policy) where
  abbrev name : List ℕ
  name = name_of policy m

  abbrev key : List ℕ
  key = (issuer_key_of policy name root).key

  abbrev file : List ℕ
  file = label_sealed policy name root nonce text

  eight : length name ≡ 8
  eight = name_length policy ok m label

  seals : Seals policy name root nonce text
  seals = record { keyed = given (record { accepted = ok; label = label; named = refl }) whole; nonces = twelve; short = short }

  size : length file ≡ 38 + length text
  size = label_sealed_length policy name root nonce text seals

  of_seal : (out : List ℕ) → OfSeal policy root nonce text m file out
  unfolding label_sealed
  of_seal out = record {
    under_key = refl;
    measured = size;
    sealed = λ fits. seal_given policy name root nonce text (length out) seals (omega (arith, size)) ∙ ap wrote (sym size);
    left = λ fits. file_left policy name root nonce text out seals (omega (arith, size)) ∙ ap (λ (n : ℕ). file ++ drop n out) (sym size);
  }

  module _ (l account : ℕ) (held : l < label_count policy) (some : 0 < account) (fits : account < 65_536) where
    abbrev envelope : List ℕ
    envelope = account_envelope policy root l account

    at_desk : OfEnvelope policy root l account envelope
    at_desk = of_envelope policy ok root whole l account held some fits

    of_open : (out : List ℕ) → OfOpen policy root text m l account file out
    unfolding label_sealed
    of_open out = record {
      opens = λ r fits. opens_sealed envelope key name nonce text eight twelve short at_desk.read (ap number (at_desk.opens m label r))
          (ap (λ (d : Derived). d.key) (at_desk.opens m label r)) (length out) fits;
      text_left = λ r fits. left_sealed envelope key name nonce text eight twelve short at_desk.read (ap number (at_desk.opens m label r))
          (ap (λ (d : Derived). d.key) (at_desk.opens m label r)) out fits;
      refuses = λ r. refuses_sealed envelope key name nonce text eight twelve short at_desk.read (ap number (at_desk.refuses_label m label r)) (length out);
      kept = λ r. kept_sealed envelope key name nonce text eight twelve short at_desk.read (ap number (at_desk.refuses_label m label r)) out;
    }

-- for every accepted policy, root secret of 32 bytes, nonce of 12, text of at most 32,768 and label
pub ask2 : (policy : List ℕ) → AcceptedPolicy policy → (root nonce text : List ℕ) (m : ℕ) → length root ≡ 32
    → length nonce ≡ 12 → length text ≤ 32768 → m < label_count policy → Ask2 policy root nonce text m (label_sealed policy (name_of policy m) root nonce text)
ask2 policy ok root nonce text m whole twelve short label = record {
  seals = of_seal policy ok root nonce text m whole twelve short label;
  opens = of_open policy ok root nonce text m whole twelve short label;
}
