-- 01's rows 13 to 16 in words: what `issuer_key` and `issue` are answered. Each holds only when it is reached: the rows before it have passed.
use Rattle.std.specs.Prelude.{ℕ, ◌≤◌, ◌<◌, List, ◌≢◌, ◌⊎◌, ◌≡◌, length}
use Rattle.policy_file.specs.File.{name_of, count_of}
use Rattle.policy_file.specs.Whole.{policy_refusal, label_count, AcceptedPolicy}
use Rattle.issuer_answers.specs.Issue.{account_envelope}

-- 13, "name asked for is not in the policy, or not 8 bytes"
pub data NoLabel (policy name : List ℕ) : Type 0 where
  other_length : length name ≢ 8 → NoLabel policy name
  not_there : length name ≡ 8 → ((i : ℕ) → i < label_count policy → name_of policy i ≢ name) → NoLabel policy name

-- l is the label asked for
pub record LabelOf (policy name : List ℕ) (l : ℕ) : Type 0 where
  pub accepted : AcceptedPolicy policy
  pub label : l < label_count policy
  pub named : name_of policy l ≡ name

-- 14, "account number 0 or above the label's count"
abbrev pub NoAccount : List ℕ → (l account : ℕ) → Type 0
NoAccount policy l account = (account ≡ 0) ⊎ (count_of policy l < account)

-- an existing account of the label asked for
pub record AccountOf (policy name : List ℕ) (l account : ℕ) : Type 0 where
  pub label : LabelOf policy name l
  pub some : 0 < account
  pub within : account ≤ count_of policy l

-- the answers of `issuer_key`, by their numbers
pub data KeyAnswered (policy name root : List ℕ) : ℕ → Type 0 where
  policys : 0 < policy_refusal policy → KeyAnswered policy name root (policy_refusal policy)
  row_13 : AcceptedPolicy policy → NoLabel policy name → KeyAnswered policy name root 13
  row_15 : {l : ℕ} → LabelOf policy name l → length root ≢ 32 → KeyAnswered policy name root 15
  given : {l : ℕ} → LabelOf policy name l → length root ≡ 32 → KeyAnswered policy name root 0

-- the answers of `issue` for a buffer of `room` bytes, by their numbers
pub data IssueAnswered (policy name : List ℕ) (account : ℕ) (root : List ℕ) (room : ℕ) : ℕ → Type 0 where
  policys : 0 < policy_refusal policy → IssueAnswered policy name account root room (policy_refusal policy)
  row_13 : AcceptedPolicy policy → NoLabel policy name → IssueAnswered policy name account root room 13
  row_14 : {l : ℕ} → LabelOf policy name l → NoAccount policy l account → IssueAnswered policy name account root room 14
  row_15 : {l : ℕ} → AccountOf policy name l account → length root ≢ 32 → IssueAnswered policy name account root room 15
  row_16 : {l : ℕ} → AccountOf policy name l account → length root ≡ 32 → room < length (account_envelope policy root l account)
      → IssueAnswered policy name account root room 16
  written : {l : ℕ} → AccountOf policy name l account → length root ≡ 32 → length (account_envelope policy root l account) ≤ room
      → IssueAnswered policy name account root room 0
