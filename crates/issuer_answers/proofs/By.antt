-- The envelope of an account at the label asked for, whatever decides under which number the account is refused there: the counts of a policy, or a roster.
use Rattle.std.specs.Prelude.{None, Option, Some}
use Prim.Native.Nat.{ℕ, ◌≤◌, ◌<◌}
use mathlib.Core.List.{List}
use mathlib.Core.Logic.{◌≢◌}
use mathlib.Core.Path.{◌≡◌, refl, sym, ap, ◌∙◌}
use native.Mathlib.Omega.{arith}
use borrow.Author.Tests.{eq-eqb, ne_eqb}
use lib.ListN.{length}
use Rattle.buffers.proofs.Handed.{handed_none, left_none, room_handed, unless_none, unless_refused, unless_into, unless_left}
use Rattle.buffers.specs.Handed.{wrote, refused_written, handed, handed_into}
use Rattle.buffers.specs.declared.Written.{Written}
use Rattle.policy_file.specs.Whole.{policy_refusal, label_count, AcceptedPolicy}
use Rattle.issuer_answers.specs.Issue.{account_envelope, asked_refusal, refusal_by, asked_envelope, issued_by, left_by}
use Rattle.issuer_answers.specs.Keys.{label_asked}
use Rattle.issuer_answers.specs.Rows.{NoLabel, LabelOf}
use Rattle.issuer_answers.proofs.Asked.{asked_label, asked_none}

-- label l found: the envelope asked for is that of its account
pub envelope_at : (policy name : List ℕ) (account : ℕ) (root : List ℕ) {l : ℕ} → label_asked policy (label_count policy) name ≡ Some l
    → asked_envelope policy name account root ≡ account_envelope policy root l account
unfolding asked_envelope
envelope_at policy name account root e = rw (e, asked_envelope)

module _ (policy name : List ℕ) (account : ℕ) (root : List ℕ) (number : ℕ → ℕ) where
  abbrev refusal : ℕ
  refusal = refusal_by policy name number

  abbrev envelope : List ℕ
  envelope = asked_envelope policy name account root

  -- the number before the buffer's
  refusal_policy : policy_refusal policy ≢ 0 → refusal ≡ policy_refusal policy
  unfolding refusal_by
  refusal_policy ne = rw (ne_eqb (policy_refusal policy) 0 ne)

  refusal_asked : AcceptedPolicy policy → {f : Option ℕ} → label_asked policy (label_count policy) name ≡ f → refusal ≡ asked_refusal number f
  unfolding refusal_by
  refusal_asked ok e = rw (eq-eqb (policy_refusal policy) 0 ok, e)

  refusal_13 : asked_refusal number None ≡ 13
  unfolding asked_refusal
  refusal_13 = refl

  refusal_at : (l : ℕ) → asked_refusal number (Some l) ≡ number l
  unfolding asked_refusal
  refusal_at l = refl

  -- the answer and the buffer from that number
  issued_refused : (room : ℕ) → 0 < refusal → issued_by policy name account root number room ≡ refused_written refusal
  unfolding issued_by
  issued_refused room some = unless_refused envelope room some

  buffer_refused : (out : List ℕ) → 0 < refusal → left_by policy name account root number out ≡ out
  unfolding left_by
  buffer_refused out some = unless_left envelope out some

  issued_handed : (room : ℕ) → refusal ≡ 0 → issued_by policy name account root number room ≡ handed envelope room
  unfolding issued_by
  issued_handed room e = unless_none envelope room e

  buffer_handed : (out : List ℕ) → refusal ≡ 0 → left_by policy name account root number out ≡ handed_into envelope out
  unfolding left_by
  buffer_handed out e = unless_into envelope out e

  -- a number before the buffer's: the answer has it and a 0, and the buffer stays as it was
  pub record Refuses (n : ℕ) : Type 0 where
    pub issues : (room : ℕ) → issued_by policy name account root number room ≡ refused_written n
    pub leaves : (out : List ℕ) → left_by policy name account root number out ≡ out

  refuses : {n : ℕ} → 0 < n → refusal ≡ n → Refuses n
  refuses {n} some e = record {
    issues = λ room. issued_refused room (omega arith) ∙ ap refused_written e;
    leaves = λ out. buffer_refused out (omega arith);
  }

  pub by_policy : 0 < policy_refusal policy → Refuses (policy_refusal policy)
  by_policy bad = refuses bad (refusal_policy (λ e. omega arith))

  -- no label found
  pub by_asked_13 : AcceptedPolicy policy → label_asked policy (label_count policy) name ≡ None → Refuses 13
  by_asked_13 ok e = refuses (omega arith) (refusal_asked ok e ∙ refusal_13)

  pub by_13 : AcceptedPolicy policy → NoLabel policy name → Refuses 13
  by_13 ok none = by_asked_13 ok (asked_none policy name ok none)

  -- label l found: its account and the root secret are refused under a number, or the envelope is handed out
  module _ {l : ℕ} (ok : AcceptedPolicy policy) (at : label_asked policy (label_count policy) name ≡ Some l) where
    number_at : refusal ≡ number l
    number_at = refusal_asked ok at ∙ refusal_at l

    pub number_refuses : {n : ℕ} → n ≡ number l → 0 < n → Refuses n
    number_refuses e some = refuses some (number_at ∙ sym e)

    module _ {n : ℕ} (e : n ≡ number l) (none : n ≡ 0) where
      unrefused : refusal ≡ 0
      unrefused = number_at ∙ sym e ∙ none

      module _ {s : List ℕ} (made : s ≡ account_envelope policy root l account) where
        asked_made : s ≡ envelope
        asked_made = made ∙ sym (envelope_at policy name account root at)

        pub issued_at : (room : ℕ) {w : Written} → w ≡ handed s room → w ≡ issued_by policy name account root number room
        issued_at room h = h ∙ ap (λ (t : List ℕ). handed t room) asked_made ∙ sym (issued_handed room unrefused)

        pub buffer_at : (out : List ℕ) {after : List ℕ} → after ≡ handed_into s out → after ≡ left_by policy name account root number out
        buffer_at out h = h ∙ ap (λ (t : List ℕ). handed_into t out) asked_made ∙ sym (buffer_handed out unrefused)

  -- label l has the name asked for, and its number there is known
  module _ {l : ℕ} (h : LabelOf policy name l) where
    found : label_asked policy (label_count policy) name ≡ Some l
    found = asked_label policy name h.accepted h

    pub by_number : {n : ℕ} → number l ≡ n → 0 < n → Refuses n
    by_number e some = number_refuses h.accepted found (sym e) some

    -- the envelope is handed out
    module _ (none : number l ≡ 0) where
      pub by_given : (room : ℕ) → issued_by policy name account root number room ≡ handed (account_envelope policy root l account) room
      by_given room = sym (issued_at h.accepted found refl none refl room refl)

      pub by_left : (out : List ℕ) → left_by policy name account root number out ≡ handed_into (account_envelope policy root l account) out
      by_left out = sym (buffer_at h.accepted found refl none refl out refl)

      pub by_16 : (room : ℕ) → room < length (account_envelope policy root l account) → issued_by policy name account root number room ≡ refused_written 16
      by_16 room short = by_given room ∙ sym (handed_none (account_envelope policy root l account) room short)

      pub by_kept : (out : List ℕ) → length out < length (account_envelope policy root l account) → left_by policy name account root number out ≡ out
      by_kept out short = by_left out ∙ sym (left_none (account_envelope policy root l account) out short)

      pub by_written : (room : ℕ) → length (account_envelope policy root l account) ≤ room
          → issued_by policy name account root number room ≡ wrote (length (account_envelope policy root l account))
      by_written room fits = by_given room ∙ room_handed (account_envelope policy root l account) room fits
