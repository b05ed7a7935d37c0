-- The envelope of an account of a policy, and what `issue` answers and leaves in the lent buffer.
use Rattle.std.specs.Prelude.{ℕ, cond, List, [], eqb, ltb, length, None, Option, Some}
use Rattle.buffers.specs.Handed.{written_unless, buffer_unless}
use Rattle.buffers.specs.declared.Written.{Written}
use Rattle.envelopes.specs.Envelope.{envelope_of}
use Rattle.plan_answers.specs.Planned.{at_or_below}
use Rattle.policy_file.specs.File.{name_of, count_of}
use Rattle.policy_file.specs.Whole.{policy_refusal, label_count}
use Rattle.issuer_answers.specs.Keys.{parent_of, label_asked}

-- the envelope of an account at label l, by the plan's tree
unfoldable pub account_envelope : (policy root : List ℕ) (l account : ℕ) → List ℕ
account_envelope policy root l account = envelope_of (name_of policy) (at_or_below policy) (parent_of policy) root l (label_count policy) account

-- 14, "account number 0 or above the label's count"; 15, "root secret not 32 bytes"; or 0
unfoldable pub account_refusal : (policy root : List ℕ) (account l : ℕ) → ℕ
account_refusal policy root account l =
    cond (eqb account 0) 14
    (cond (ltb (count_of policy l) account) 14
    (cond (eqb (length root) 32) 0
    15))

-- 13, "name asked for is not in the policy, or not 8 bytes"; `number l` is what an account is refused under at label l
unfoldable pub asked_refusal : (number : ℕ → ℕ) → Option ℕ → ℕ
asked_refusal number (Some l) = number l
asked_refusal number None = 13

-- the refusals before the buffer's: the policy's own, then 13, then those of the account and the root secret
unfoldable pub refusal_by : (policy name : List ℕ) (number : ℕ → ℕ) → ℕ
refusal_by policy name number =
    cond (eqb (policy_refusal policy) 0)
    (asked_refusal number (label_asked policy (label_count policy) name))
    (policy_refusal policy)

-- the envelope of an account at the label asked for; none if no label has the name
unfoldable pub asked_envelope : (policy name : List ℕ) (account : ℕ) (root : List ℕ) → List ℕ
asked_envelope policy name account root = elim (label_asked policy (label_count policy) name) [ Some l ↦ account_envelope policy root l account | None ↦ [] ]

-- what is answered, for a buffer of `room` bytes: the length of the envelope; 16, "buffer shorter than the envelope"
unfoldable pub issued_by : (policy name : List ℕ) (account : ℕ) (root : List ℕ) (number : ℕ → ℕ) (room : ℕ) → Written
issued_by policy name account root number room = written_unless (refusal_by policy name number) (asked_envelope policy name account root) room

-- what is left: "An issue that succeeds writes the envelope from the buffer's start .. and changes no byte behind it"; with a refusal
-- "lent buffers are unchanged"
unfoldable pub left_by : (policy name : List ℕ) (account : ℕ) (root : List ℕ) (number : ℕ → ℕ) (out : List ℕ) → List ℕ
left_by policy name account root number out = buffer_unless (refusal_by policy name number) (asked_envelope policy name account root) out

-- what `issue` answers and leaves: 14 and 15 by the counts in the policy
unfoldable pub issued_of : (policy name : List ℕ) (account : ℕ) (root : List ℕ) (room : ℕ) → Written
issued_of policy name account root room = issued_by policy name account root (account_refusal policy root account) room

unfoldable pub envelope_after : (policy name : List ℕ) (account : ℕ) (root out : List ℕ) → List ℕ
envelope_after policy name account root out = left_by policy name account root (account_refusal policy root account) out
