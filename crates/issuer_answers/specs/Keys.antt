-- The issuer's own secrets and keys of a policy's labels, and what `issuer_key` answers.
use Rattle.std.specs.Prelude.{ℕ, cond, List, eqb, length, replicate, None, Option, Some}
use Rattle.envelopes.specs.Secrets.{key_of}
use Rattle.plan_answers.specs.Planned.{plan_of}
use Rattle.policy_file.specs.File.{name_of, label_named}
use Rattle.policy_file.specs.Whole.{policy_refusal, label_count}
use Rattle.weights.specs.Tables.{entries}
use Rattle.issuer_answers.specs.declared.IssuerKey.{IssuerKey}

-- "Keys and envelopes always follow the plan's tree."
abbrev pub parent_of : List ℕ → ℕ → ℕ
parent_of policy = entries (plan_of policy).parents

-- the key of a label
unfoldable pub label_key_of : (policy root : List ℕ) (l : ℕ) → List ℕ
label_key_of policy root l = key_of (name_of policy) (parent_of policy) root l

-- the label that a name asked for belongs to; 13 if it "is not in the policy, or not 8 bytes"
unfoldable pub label_asked : List ℕ → (labels : ℕ) → List ℕ → Option ℕ
label_asked policy labels name = cond (eqb (length name) 8) (label_named policy labels name) None

-- "With a refusal every number in the answer is 0, .. a key .. is 32 zero bytes"
abbrev pub refused_key : ℕ → IssuerKey
refused_key number = record { refusal = number; key = replicate 32 0 }

-- 15, "root secret not 32 bytes"
unfoldable pub key_at : (policy root : List ℕ) → Option ℕ → IssuerKey
key_at policy root (Some l) = cond (eqb (length root) 32) (record { refusal = 0; key = label_key_of policy root l }) (refused_key 15)
key_at policy root None = refused_key 13

-- what `issuer_key` answers: the policy's refusal, 13, 15, or the key
unfoldable pub issuer_key_of : (policy name root : List ℕ) → IssuerKey
issuer_key_of policy name root =
    cond (eqb (policy_refusal policy) 0)
    (key_at policy root (label_asked policy (label_count policy) name))
    (refused_key (policy_refusal policy))
