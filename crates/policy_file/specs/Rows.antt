-- 01's table "Refusals by the place of checking" for a policy file, in words: what each number says of the file.
-- A record is named by how many labels and over-pairs stand before it. Each row holds only when it is reached:
-- the checks of the rows before it have passed.
use Rattle.std.specs.Prelude.{ℕ, ◌+◌, ◌-◌, ◌≤◌, ◌<◌, List, ◌⊎◌, ◌≡◌, length, replicate}
use Rattle.format.specs.Bytes.{bytes_at}
use Rattle.format.specs.Form.{NameForm}
use Rattle.format.specs.Marks.{LB, OV}
use Rattle.lists.specs.Tables.{filled}
use Rattle.policy_file.specs.File.{place_of, name_of, count_of, pair_at}
use Rattle.policy_file.specs.Whole.{refused_policy, no_pair}
use Rattle.policy_file.specs.declared.Policy.{Policy}

-- how many bytes there are from the record's start on, and the mark that it opens with
abbrev pub bytes_left : List ℕ → ℕ → ℕ → ℕ
bytes_left file labels pairs = length file - place_of labels pairs

abbrev pub mark_of : List ℕ → ℕ → ℕ → List ℕ
mark_of file labels pairs = bytes_at file (place_of labels pairs) 2

-- a whole `LB` record, 12 bytes; a whole `OV` record, 4 bytes
pub record WholeLabel (file : List ℕ) (labels pairs : ℕ) : Type 0 where
  pub mark : mark_of file labels pairs ≡ LB
  pub whole : 12 ≤ bytes_left file labels pairs

pub record WholeOver (file : List ℕ) (labels pairs : ℕ) : Type 0 where
  pub mark : mark_of file labels pairs ≡ OV
  pub whole : 4 ≤ bytes_left file labels pairs

-- 2, "a single byte left .., or a mark not belonging to this file"
pub data NoMark (file : List ℕ) (labels pairs : ℕ) : Type 0 where
  single_byte : bytes_left file labels pairs ≡ 1 → NoMark file labels pairs
  other_mark : 2 ≤ bytes_left file labels pairs → (mark_of file labels pairs ≡ LB → ⊥) → (mark_of file labels pairs ≡ OV → ⊥)
      → NoMark file labels pairs

-- 3, "record cut short"
pub data CutShort (file : List ℕ) (labels pairs : ℕ) : Type 0 where
  short_label : mark_of file labels pairs ≡ LB → bytes_left file labels pairs < 12 → CutShort file labels pairs
  short_over : mark_of file labels pairs ≡ OV → bytes_left file labels pairs < 4 → CutShort file labels pairs

-- 4, an `LB` "after an `OV`"
pub record LateLabel (file : List ℕ) (labels pairs : ℕ) : Type 0 where
  pub record_at_lem : WholeLabel file labels pairs
  pub late : 0 < pairs

-- 5, "a 65th label, 513th `OV`"
pub data TooMany (file : List ℕ) (labels pairs : ℕ) : Type 0 where
  label_65 : WholeLabel file labels pairs → pairs ≡ 0 → 64 ≤ labels → TooMany file labels pairs
  over_513 : WholeOver file labels pairs → 512 ≤ pairs → TooMany file labels pairs

-- a label of which rows 2 to 5 are passed
pub record LabelFits (file : List ℕ) (labels pairs : ℕ) : Type 0 where
  pub record_at_lem : WholeLabel file labels pairs
  pub in_time : pairs ≡ 0
  pub fits : labels < 64

-- 6, "name badly formed"
pub record BadName (file : List ℕ) (labels pairs : ℕ) : Type 0 where
  pub label : LabelFits file labels pairs
  pub malformed : NameForm (name_of file labels) → ⊥

-- 7, "name carried by an earlier record"
pub record NameCarried (file : List ℕ) (labels pairs : ℕ) : Type 0 where
  pub label : LabelFits file labels pairs
  pub formed : NameForm (name_of file labels)
  pub earlier : ℕ
  pub before : earlier < labels
  pub carried : name_of file earlier ≡ name_of file labels

-- an over-pair of which rows 2 to 5 are passed
pub record OverFits (file : List ℕ) (labels pairs : ℕ) : Type 0 where
  pub record_at_lem : WholeOver file labels pairs
  pub fits : pairs < 512

-- 8, "a number not below the label count"
pub record NoSuchLabel (file : List ℕ) (labels pairs : ℕ) : Type 0 where
  pub over : OverFits file labels pairs
  pub missing : (labels ≤ (pair_at file labels pairs).upper) ⊎ (labels ≤ (pair_at file labels pairs).lower)

-- 9, "upper number not less than lower"
pub record NotAbove (file : List ℕ) (labels pairs : ℕ) : Type 0 where
  pub over : OverFits file labels pairs
  pub upper : (pair_at file labels pairs).upper < labels
  pub lower : (pair_at file labels pairs).lower < labels
  pub rises : (pair_at file labels pairs).lower ≤ (pair_at file labels pairs).upper

-- the rows of a record, by their numbers
pub data RefusedAt (file : List ℕ) (labels pairs : ℕ) : ℕ → Type 0 where
  row_2 : NoMark file labels pairs → RefusedAt file labels pairs 2
  row_3 : CutShort file labels pairs → RefusedAt file labels pairs 3
  row_4 : LateLabel file labels pairs → RefusedAt file labels pairs 4
  row_5 : TooMany file labels pairs → RefusedAt file labels pairs 5
  row_6 : BadName file labels pairs → RefusedAt file labels pairs 6
  row_7 : NameCarried file labels pairs → RefusedAt file labels pairs 7
  row_8 : NoSuchLabel file labels pairs → RefusedAt file labels pairs 8
  row_9 : NotAbove file labels pairs → RefusedAt file labels pairs 9

-- a label, and an over-pair, that no row refuses
pub record LabelAt (file : List ℕ) (labels pairs : ℕ) : Type 0 where
  pub label : LabelFits file labels pairs
  pub formed : NameForm (name_of file labels)
  pub new : (i : ℕ) → i < labels → name_of file i ≡ name_of file labels → ⊥

pub record OverAt (file : List ℕ) (labels pairs : ℕ) : Type 0 where
  pub over : OverFits file labels pairs
  pub lower : (pair_at file labels pairs).lower < labels
  pub falls : (pair_at file labels pairs).upper < (pair_at file labels pairs).lower

-- the records before the one after so many labels and pairs all pass
pub data PolicyPasses (file : List ℕ) : ℕ → ℕ → Type 0 where
  start : PolicyPasses file 0 0
  label : {labels pairs : ℕ} → PolicyPasses file labels pairs → LabelAt file labels pairs → PolicyPasses file (labels + 1) pairs
  over : {labels pairs : ℕ} → PolicyPasses file labels pairs → OverAt file labels pairs → PolicyPasses file labels (pairs + 1)

-- reading stops after so many labels and pairs, under the number: their counts and pairs are those of the file, in file order, with 0 after them
abbrev pub stop_at : List ℕ → (number labels pairs : ℕ) → Policy
stop_at file number labels pairs = record {
  refusal = number;
  zeros = replicate 7 0;
  labels = labels;
  pairs = pairs;
  counts = filled 64 0 (count_of file) labels;
  over = filled 512 no_pair (pair_at file labels) pairs;
}

-- where the reading of a file stops: at its first refused record, or at its end
pub data Stops (file : List ℕ) : Policy → Type 0 where
  refused_there_lem : {labels pairs n : ℕ} → PolicyPasses file labels pairs → RefusedAt file labels pairs n → Stops file (stop_at file n labels pairs)
  ended_there : {labels pairs : ℕ} → PolicyPasses file labels pairs → bytes_left file labels pairs ≡ 0 → Stops file (stop_at file 0 labels pairs)

-- label m is the lower of one of so many pairs
pub record LowerOf (file : List ℕ) (labels pairs m : ℕ) : Type 0 where
  pub pair : ℕ
  pub below : pair < pairs
  pub lower : (pair_at file labels pair).lower ≡ m

-- 10, at the file's end: "a label other than 0 is never the lower of a pair"
pub record Unplaced (file : List ℕ) (labels pairs : ℕ) : Type 0 where
  pub ends : bytes_left file labels pairs ≡ 0
  pub label : ℕ
  pub below : label < labels
  pub other : 0 < label
  pub never : LowerOf file labels pairs label → ⊥

-- no row refuses the file, which ends after so many labels and pairs
pub record NoneRefuses (file : List ℕ) (labels pairs : ℕ) : Type 0 where
  pub some : 0 < length file
  pub passes : PolicyPasses file labels pairs
  pub ends : bytes_left file labels pairs ≡ 0
  pub placed : (m : ℕ) → m < labels → 0 < m → LowerOf file labels pairs m

-- a row holds at a place before which all records pass
pub record ReachedInPolicy (file : List ℕ) (Row : List ℕ → ℕ → ℕ → Type 0) : Type 0 where
  pub labels : ℕ
  pub pairs : ℕ
  pub passes : PolicyPasses file labels pairs
  pub row : Row file labels pairs

-- What a policy file is answered, in words: 1 for "length 0"; "The first refused record refuses its whole file"; 10 at the end;
-- "A policy that none of its own checks refuses is accepted".
pub data Answered (file : List ℕ) : Policy → Type 0 where
  empty : length file ≡ 0 → Answered file (refused_policy 1)
  at_record : {labels pairs n : ℕ} → PolicyPasses file labels pairs → RefusedAt file labels pairs n → Answered file (refused_policy n)
  at_end_lem : {labels pairs : ℕ} → PolicyPasses file labels pairs → Unplaced file labels pairs → Answered file (refused_policy 10)
  read : {labels pairs : ℕ} → NoneRefuses file labels pairs → Answered file (stop_at file 0 labels pairs)
