-- How the accounts of a roster stand, as `read_roster` answers it: "Whenever an answer is an enum, a definition gives this paper's number and values for each
-- of the enum's cases."
use Rattle.std.specs.Prelude.{ℕ, suc, cond, List, eqb, replicate}
use Rattle.lists.specs.Tables.{listed}
use Rattle.policy_file.specs.Whole.{label_count}
use Rattle.roster_file.specs.Counts.{count_in}
use Rattle.roster_file.specs.Machine.{standing_of}
use Rattle.roster_file.specs.declared.Activity.TheVariants.{Active, Held}
use Rattle.roster_file.specs.declared.Activity.{Activity}
use Rattle.roster_file.specs.declared.Roster.{Roster}
use Rattle.roster_file.specs.declared.Standing.TheVariants.{Unknown, Withdrawn, On}
use Rattle.roster_file.specs.declared.Standing.{Standing}
use Rattle.roster_answers.specs.Rostered.{files_refusal, roster_of}
use Rattle.roster_answers.specs.declared.Standings.{Standings}

-- a standing's number
abbrev pub activity_number : Activity → ℕ
activity_number Active = 2
activity_number Held = 3

abbrev pub state_number : Standing → ℕ
state_number Unknown = 0
state_number Withdrawn = 1
state_number (On l activity) = activity_number activity

-- the label that it is on; 0 if it is on none
abbrev pub place_number : Standing → ℕ
place_number Unknown = 0
place_number Withdrawn = 0
place_number (On l activity) = l

-- of the account at place i, whose number is i + 1
unfoldable pub state_at : Roster → (i : ℕ) → ℕ
state_at roster i = state_number (standing_of roster (suc i))

unfoldable pub place_at : Roster → (i : ℕ) → ℕ
place_at roster i = place_number (standing_of roster (suc i))

-- the counts, states and places of a roster; the counts of the 64 label numbers, so 0 past the labels
unfoldable pub standings_of : (labels : ℕ) → Roster → Standings
standings_of labels roster = record {
  refusal = 0;
  zeros = replicate 7 0;
  labels = labels;
  counts = listed (count_in roster) 64;
  states = listed (state_at roster) 4096;
  places = listed (place_at roster) 4096;
}

-- "A refused one yields zeros beside that number"
abbrev pub refused_standings : ℕ → Standings
refused_standings number = record {
  refusal = number;
  zeros = replicate 7 0;
  labels = 0;
  counts = replicate 64 0;
  states = replicate 4096 0;
  places = replicate 4096 0;
}

-- what `read_roster` answers
unfoldable pub roster_read : (policy roster : List ℕ) → Standings
roster_read policy roster =
    cond (eqb (files_refusal policy roster) 0) (standings_of (label_count policy) (roster_of policy roster)) (refused_standings (files_refusal policy roster))
