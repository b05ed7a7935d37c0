-- A policy file and a roster file (02, Ask 4): which is refused, and what both say.
use Rattle.std.specs.Prelude.{ℕ, cond, List, ◌≡◌, eqb}
use Rattle.policy_file.specs.Counts.{recounted}
use Rattle.policy_file.specs.Whole.{policy_refusal, label_count}
use Rattle.roster_file.specs.Counts.{count_in}
use Rattle.roster_file.specs.Machine.{empty_roster}
use Rattle.roster_file.specs.Whole.{stop_of}
use Rattle.roster_file.specs.declared.Roster.{Roster}
use Rattle.roster_file.specs.declared.Stop.{Stop}
use Rattle.roster_answers.specs.declared.Rostered.{Rostered}

-- where the reading of a roster file stops, with the labels of a policy
abbrev pub roster_stop : (policy roster : List ℕ) → Stop
roster_stop policy roster = stop_of policy (label_count policy) roster

-- 01: "A refusal of the policy comes before any other in an operation that takes one, then come those of any other file it takes"
unfoldable pub files_refusal : (policy roster : List ℕ) → ℕ
files_refusal policy roster = cond (eqb (policy_refusal policy) 0) (roster_stop policy roster).refusal (policy_refusal policy)

abbrev pub AcceptedFiles : (policy roster : List ℕ) → Type 0
AcceptedFiles policy roster = files_refusal policy roster ≡ 0

-- the roster after all records of an accepted file
unfoldable pub roster_of : (policy roster : List ℕ) → Roster
roster_of policy roster = (roster_stop policy roster).roster

-- a label's accounts
abbrev pub roster_count : (policy roster : List ℕ) → (l : ℕ) → ℕ
roster_count policy roster = count_in (roster_of policy roster)

-- "Where a roster is given its counts replace those in `LB`": the policy that an operation with a roster works on
unfoldable pub counted_policy : (policy roster : List ℕ) → List ℕ
counted_policy policy roster = recounted policy (roster_count policy roster) (label_count policy)

-- "A refused one yields zeros beside that number": no labels and an empty roster
abbrev pub refused_rostered : ℕ → Rostered
refused_rostered number = record { refusal = number; labels = 0; roster = empty_roster }

-- what `read_files` answers
unfoldable pub rostered_of : (policy roster : List ℕ) → Rostered
rostered_of policy roster =
    cond (eqb (files_refusal policy roster) 0)
    (record { refusal = 0; labels = label_count policy; roster = roster_of policy roster })
    (refused_rostered (files_refusal policy roster))
