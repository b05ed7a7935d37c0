-- "With a refusal every number in the answer is 0, .. a key .. is 32 zero bytes, and lent buffers are unchanged." Without one, the length
-- answered lies within the buffer.
use Rattle.std.specs.Prelude.{None, Option, Some}
use Prim.Native.Nat.{ℕ, ◌≤◌, ◌<◌}
use mathlib.Core.Bool.{Bool, true, false}
use mathlib.Core.List.{List}
use mathlib.Core.Path.{◌≡◌, refl}
use native.Mathlib.Omega.{arith}
use borrow.Author.Tests.{eqb-true, eqb-false}
use lib.Dec.{eqb}
use lib.ListN.{length}
use Rattle.buffers.specs.Handed.{refused_written}
use Rattle.buffers.specs.declared.Written.{Written}
use Rattle.policy_file.specs.Whole.{policy_refusal, label_count}
use Rattle.issuer_answers.specs.Keys.{label_asked, refused_key, key_at, issuer_key_of}
use Rattle.issuer_answers.specs.Issue.{account_refusal, refusal_by, asked_envelope, issued_by, left_by, issued_of, envelope_after}
use Rattle.issuer_answers.specs.declared.IssuerKey.{IssuerKey}
use Rattle.issuer_answers.proofs.Answers.{key_policy, key_asked}
use Rattle.buffers.proofs.Unless.{unless_zeros, unless_unchanged, unless_within}

-- ---- `issuer_key`

abbrev KeyZeros : IssuerKey → Type 0
KeyZeros k = 0 < k.refusal → k ≡ refused_key k.refusal

at_zeros : (policy root : List ℕ) (f : Option ℕ) → KeyZeros (key_at policy root f)
unfolding key_at
at_zeros policy root None = λ h. refl
at_zeros policy root (Some l) = go (eqb (length root) 32) refl
  where
    go : (b : Bool) → eqb (length root) 32 ≡ b → KeyZeros (key_at policy root (Some l))
    go true e = rw e (λ h. absurd (omega arith))
    go false e = rw e (λ h. refl)

pub key_zeros : (policy name root : List ℕ) → KeyZeros (issuer_key_of policy name root)
key_zeros policy name root = go (eqb (policy_refusal policy) 0) refl
  where
    go : (b : Bool) → eqb (policy_refusal policy) 0 ≡ b → KeyZeros (issuer_key_of policy name root)
    go true e = rw (key_asked policy name root (eqb-true (policy_refusal policy) 0 e) refl) (at_zeros policy root (label_asked policy (label_count policy) name))
    go false e = rw (key_policy policy name root (eqb-false (policy_refusal policy) 0 e)) (λ h. refl)

-- ---- `issue`

module _ (policy name : List ℕ) (account : ℕ) (root : List ℕ) where
  pub issue_zeros : (room : ℕ) → 0 < (issued_of policy name account root room).refusal
      → issued_of policy name account root room ≡ refused_written (issued_of policy name account root room).refusal
  unfolding issued_of issued_by
  issue_zeros room = unless_zeros (refusal_by policy name (account_refusal policy root account)) (asked_envelope policy name account root) room

  pub issue_unchanged : (out : List ℕ) → 0 < (issued_of policy name account root (length out)).refusal → envelope_after policy name account root out ≡ out
  unfolding issued_of issued_by envelope_after left_by
  issue_unchanged out = unless_unchanged (refusal_by policy name (account_refusal policy root account)) (asked_envelope policy name account root) out

  pub issued_within : (out : List ℕ) (w : Written) (after : List ℕ) → w ≡ issued_of policy name account root (length out)
      → after ≡ envelope_after policy name account root out → w.length ≤ length after
  unfolding issued_of issued_by envelope_after left_by
  issued_within out w after e f = unless_within (refusal_by policy name (account_refusal policy root account)) (asked_envelope policy name account root) out w after e f
