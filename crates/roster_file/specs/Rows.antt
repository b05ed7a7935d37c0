-- The refusals of a roster file (02, Ask 4) in words: what each number says of the file. A record is named by the byte `at` at which it starts and by the
-- roster in hand before it. Each row holds only when it is reached: the checks of the rows before it have passed.
use Rattle.std.specs.Prelude.{ℕ, ◌+◌, ◌-◌, ◌≤◌, ◌<◌, List, [], ◌∷◌, ◌⊎◌, ◌≢◌, ◌≡◌, length}
use Rattle.format.specs.Bytes.{bytes_at}
use Rattle.format.specs.Marks.{JN, MV, HD, RL, WD}
use Rattle.policy_file.specs.File.{name_of}
use Rattle.roster_file.specs.File.{number_in, name_in}
use Rattle.roster_file.specs.Machine.{standing_of, empty_roster}
use Rattle.roster_file.specs.Whole.{stopped}
use Rattle.roster_file.specs.declared.Activity.TheVariants.{Active, Held}
use Rattle.roster_file.specs.declared.Activity.{Activity}
use Rattle.roster_file.specs.declared.Roster.{Roster}
use Rattle.roster_file.specs.declared.Standing.TheVariants.{Unknown, Withdrawn, On}
use Rattle.roster_file.specs.declared.Standing.{Standing}
use Rattle.roster_file.specs.declared.Stop.{Stop}

-- ---- a record

-- how many bytes there are from the record's start on, and the mark that it opens with
abbrev pub bytes_left : List ℕ → (at : ℕ) → ℕ
bytes_left file at = length file - at

abbrev pub mark_of : List ℕ → (at : ℕ) → List ℕ
mark_of file at = bytes_at file at 2

-- a whole record of a mark: `JN` and `MV` have 12 bytes, "number name", the others 4
pub record WholeRecord (mark : List ℕ) (size : ℕ) (file : List ℕ) (at : ℕ) : Type 0 where
  pub opens : mark_of file at ≡ mark
  pub whole : size ≤ bytes_left file at

abbrev pub WholeJoin : List ℕ → (at : ℕ) → Type 0
WholeJoin file at = WholeRecord JN 12 file at

abbrev pub WholeMove : List ℕ → (at : ℕ) → Type 0
WholeMove file at = WholeRecord MV 12 file at

abbrev pub WholeHold : List ℕ → (at : ℕ) → Type 0
WholeHold file at = WholeRecord HD 4 file at

abbrev pub WholeRelease : List ℕ → (at : ℕ) → Type 0
WholeRelease file at = WholeRecord RL 4 file at

abbrev pub WholeWithdrawal : List ℕ → (at : ℕ) → Type 0
WholeWithdrawal file at = WholeRecord WD 4 file at

-- a whole record that is no join
pub data WholeOther (file : List ℕ) (at : ℕ) : Type 0 where
  a_move : WholeMove file at → WholeOther file at
  a_hold : WholeHold file at → WholeOther file at
  a_release : WholeRelease file at → WholeOther file at
  a_withdrawal : WholeWithdrawal file at → WholeOther file at

-- "Numbers are 2 bytes, 1 to 4,096."
pub record InRange (number : ℕ) : Type 0 where
  pub some : 1 ≤ number
  pub within : number ≤ 4096

pub data OutOfRange (number : ℕ) : Type 0 where
  is_zero : number ≡ 0 → OutOfRange number
  above : 4096 < number → OutOfRange number

-- label l is the first of the policy's labels that has the name; none of them has it
pub record LabelWith (policy : List ℕ) (labels : ℕ) (name : List ℕ) (l : ℕ) : Type 0 where
  pub below : l < labels
  pub here : name_of policy l ≡ name
  pub first : (i : ℕ) → i < l → name_of policy i ≢ name

abbrev pub NoLabelWith : (policy : List ℕ) (labels : ℕ) (name : List ℕ) → Type 0
NoLabelWith policy labels name = (i : ℕ) → i < labels → name_of policy i ≢ name

-- ---- the rows

-- 2, "a single byte left .., or a mark not belonging to this file"
pub data NoMark (policy : List ℕ) (labels : ℕ) (file : List ℕ) (at : ℕ) (roster : Roster) : Type 0 where
  single_byte : bytes_left file at ≡ 1 → NoMark policy labels file at roster
  other_mark : 2 ≤ bytes_left file at → mark_of file at ≢ JN → mark_of file at ≢ MV → mark_of file at ≢ HD → mark_of file at ≢ RL → mark_of file at ≢ WD
      → NoMark policy labels file at roster

-- 3, "record cut short"
pub data CutShort (policy : List ℕ) (labels : ℕ) (file : List ℕ) (at : ℕ) (roster : Roster) : Type 0 where
  short_join : mark_of file at ≡ JN → bytes_left file at < 12 → CutShort policy labels file at roster
  short_move : mark_of file at ≡ MV → bytes_left file at < 12 → CutShort policy labels file at roster
  short_hold : mark_of file at ≡ HD → bytes_left file at < 4 → CutShort policy labels file at roster
  short_release : mark_of file at ≡ RL → bytes_left file at < 4 → CutShort policy labels file at roster
  short_withdrawal : mark_of file at ≡ WD → bytes_left file at < 4 → CutShort policy labels file at roster

-- "24: join with a number out of 1 to 4,096 or already used, even if withdrawn."
pub data NotNew (policy : List ℕ) (labels : ℕ) (file : List ℕ) (at : ℕ) (roster : Roster) : Type 0 where
  out_of_range : WholeJoin file at → OutOfRange (number_in file at) → NotNew policy labels file at roster
  already_used : WholeJoin file at → standing_of roster (number_in file at) ≢ Unknown → NotNew policy labels file at roster

-- "25: other record for an account unknown or withdrawn."
pub record NotThere (policy : List ℕ) (labels : ℕ) (file : List ℕ) (at : ℕ) (roster : Roster) : Type 0 where
  pub record_at_lem : WholeOther file at
  pub gone : (standing_of roster (number_in file at) ≡ Unknown) ⊎ (standing_of roster (number_in file at) ≡ Withdrawn)

-- 13, "name asked for is not in the policy": "Both follow 2 and 3 and precede 13."
pub data NotNamed (policy : List ℕ) (labels : ℕ) (file : List ℕ) (at : ℕ) (roster : Roster) : Type 0 where
  join_nowhere : WholeJoin file at → InRange (number_in file at) → standing_of roster (number_in file at) ≡ Unknown
      → NoLabelWith policy labels (name_in file at) → NotNamed policy labels file at roster
  move_nowhere : {l : ℕ} {activity : Activity} → WholeMove file at → standing_of roster (number_in file at) ≡ On l activity
      → NoLabelWith policy labels (name_in file at) → NotNamed policy labels file at roster

-- the rows of a record, by their numbers
pub data RefusedAt (policy : List ℕ) (labels : ℕ) (file : List ℕ) (at : ℕ) (roster : Roster) : ℕ → Type 0 where
  row_2 : NoMark policy labels file at roster → RefusedAt policy labels file at roster 2
  row_3 : CutShort policy labels file at roster → RefusedAt policy labels file at roster 3
  row_24 : NotNew policy labels file at roster → RefusedAt policy labels file at roster 24
  row_25 : NotThere policy labels file at roster → RefusedAt policy labels file at roster 25
  row_13 : NotNamed policy labels file at roster → RefusedAt policy labels file at roster 13

-- the numbers that a roster file may be refused under
abbrev pub roster_numbers : List ℕ
roster_numbers = 2 ∷ 3 ∷ 13 ∷ 24 ∷ 25 ∷ []

-- ---- a record that no row refuses

-- its bytes, and how its account stands from there on. "A join or a move sets it active on the named label. Holding a held account or releasing an active
-- one changes nothing."
pub data RecordAt (policy : List ℕ) (labels : ℕ) (file : List ℕ) (at : ℕ) (roster : Roster) : (size : ℕ) → Standing → Type 0 where
  joins : {l : ℕ} → WholeJoin file at → InRange (number_in file at) → standing_of roster (number_in file at) ≡ Unknown
      → LabelWith policy labels (name_in file at) l → RecordAt policy labels file at roster 12 (On l Active)
  moves : {l m : ℕ} {activity : Activity} → WholeMove file at → standing_of roster (number_in file at) ≡ On m activity
      → LabelWith policy labels (name_in file at) l → RecordAt policy labels file at roster 12 (On l Active)
  holds : {l : ℕ} {activity : Activity} → WholeHold file at → standing_of roster (number_in file at) ≡ On l activity
      → RecordAt policy labels file at roster 4 (On l Held)
  releases : {l : ℕ} {activity : Activity} → WholeRelease file at → standing_of roster (number_in file at) ≡ On l activity
      → RecordAt policy labels file at roster 4 (On l Active)
  withdraws : {l : ℕ} {activity : Activity} → WholeWithdrawal file at → standing_of roster (number_in file at) ≡ On l activity
      → RecordAt policy labels file at roster 4 Withdrawn

-- "The roster in hand is lent to each record and altered there": account `number` stands so from here on, and every other as before
pub record Alters (roster : Roster) (number : ℕ) (s : Standing) (after : Roster) : Type 0 where
  pub itself : standing_of after number ≡ s
  pub others : (other : ℕ) → other ≢ number → standing_of after other ≡ standing_of roster other
  pub entries : length after.accounts ≡ 4096

-- ---- the whole file

-- the records before byte `at` all pass, and lead "from an empty roster" to this one
pub data RosterPasses (policy : List ℕ) (labels : ℕ) (file : List ℕ) : (at : ℕ) → Roster → Type 0 where
  start : RosterPasses policy labels file 0 empty_roster
  next : {at size : ℕ} {roster after : Roster} {s : Standing} → RosterPasses policy labels file at roster
      → RecordAt policy labels file at roster size s → Alters roster (number_in file at) s after → RosterPasses policy labels file (at + size) after

-- the file ends there
abbrev pub Ends : List ℕ → (at : ℕ) → Type 0
Ends file at = at ≡ length file

-- Where the reading of a file stops: at its first refused record under its number, with the roster as it was before that record, or at its end under 0.
pub data Stops (policy : List ℕ) (labels : ℕ) (file : List ℕ) : Stop → Type 0 where
  refused_there_lem : {at n : ℕ} {roster : Roster} → RosterPasses policy labels file at roster → RefusedAt policy labels file at roster n
      → Stops policy labels file (stopped n at roster)
  ended_there : {at : ℕ} {roster : Roster} → RosterPasses policy labels file at roster → Ends file at → Stops policy labels file (stopped 0 at roster)

-- a row holds at a record before which all pass
pub record ReachedInRoster (policy : List ℕ) (labels : ℕ) (file : List ℕ) (Row : List ℕ → ℕ → List ℕ → ℕ → Roster → Type 0) : Type 0 where
  pub at : ℕ
  pub roster : Roster
  pub passes : RosterPasses policy labels file at roster
  pub row : Row policy labels file at roster
