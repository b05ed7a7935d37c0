-- What `issue_roster` answers, in words (02, Ask 4): "14 means that the account is not on the named label", "26: issue to a held account, after 14." Each
-- row holds only when it is reached: the rows before it have passed.
use Rattle.std.specs.Prelude.{ℕ, ◌≤◌, ◌<◌, List, ◌≢◌, ◌≡◌, length}
use Rattle.issuer_answers.specs.Issue.{account_envelope}
use Rattle.issuer_answers.specs.Rows.{NoLabel, LabelOf}
use Rattle.roster_file.specs.Counts.{StandsOn}
use Rattle.roster_file.specs.Machine.{standing_of}
use Rattle.roster_file.specs.declared.Activity.TheVariants.{Active, Held}
use Rattle.roster_file.specs.declared.Activity.{Activity}
use Rattle.roster_file.specs.declared.Standing.TheVariants.{On}
use Rattle.roster_answers.specs.Rostered.{files_refusal, AcceptedFiles, roster_of, counted_policy}

-- both files are accepted, and l is the label asked for
pub record RosterLabel (policy roster name : List ℕ) (l : ℕ) : Type 0 where
  pub accepted : AcceptedFiles policy roster
  pub label : LabelOf policy name l

-- the account is not on label l: it is unknown, withdrawn, on another label, or its number is out of 1 to 4,096
abbrev pub NotOn : (policy roster : List ℕ) (l account : ℕ) → Type 0
NotOn policy roster l account = ¬ StandsOn (roster_of policy roster) l account

-- the account is on the label asked for, and active or held
pub record RosterAccount (policy roster name : List ℕ) (l account : ℕ) (activity : Activity) : Type 0 where
  pub label : RosterLabel policy roster name l
  pub stands : standing_of (roster_of policy roster) account ≡ On l activity

-- its envelope: that of the policy with the roster's counts
abbrev pub roster_envelope : (policy roster root : List ℕ) (l account : ℕ) → List ℕ
roster_envelope policy roster root l account = account_envelope (counted_policy policy roster) root l account

-- the answers for a buffer of `room` bytes, by their numbers: the refusals of the policy and of the roster, 13, 14, 26, 15, 16
pub data RosterIssueAnswered (policy roster name : List ℕ) (account : ℕ) (root : List ℕ) (room : ℕ) : ℕ → Type 0 where
  files : 0 < files_refusal policy roster → RosterIssueAnswered policy roster name account root room (files_refusal policy roster)
  row_13 : AcceptedFiles policy roster → NoLabel policy name → RosterIssueAnswered policy roster name account root room 13
  -- "14 means that the account is not on the named label"
  row_14 : {l : ℕ} → RosterLabel policy roster name l → NotOn policy roster l account → RosterIssueAnswered policy roster name account root room 14
  -- "26: issue to a held account, after 14."
  row_26 : {l : ℕ} → RosterAccount policy roster name l account Held → RosterIssueAnswered policy roster name account root room 26
  row_15 : {l : ℕ} → RosterAccount policy roster name l account Active → length root ≢ 32 → RosterIssueAnswered policy roster name account root room 15
  row_16 : {l : ℕ} → RosterAccount policy roster name l account Active → length root ≡ 32 → room < length (roster_envelope policy roster root l account)
      → RosterIssueAnswered policy roster name account root room 16
  written : {l : ℕ} → RosterAccount policy roster name l account Active → length root ≡ 32 → length (roster_envelope policy roster root l account) ≤ room
      → RosterIssueAnswered policy roster name account root room 0
