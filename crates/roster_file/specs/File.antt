-- Where things stand in a roster file (02, Ask 4): "`JN` number name, `MV` number name, `HD` number, `RL` number and `WD` number (join, move, hold,
-- release, withdraw). Numbers are 2 bytes". A record is named by the byte at which it starts.
use Rattle.std.specs.Prelude.{ℕ, Option, ◌+◌, ◌-◌, cond, List, ltb, length}
use Rattle.format.specs.Bytes.{bytes_at, same_bytes, number_at}
use Rattle.format.specs.Marks.{JN, MV, HD, RL, WD}
use Rattle.policy_file.specs.File.{label_named}
use Rattle.roster_file.specs.declared.Entry.TheVariants.{Join, Move, Hold, Release, Withdraw, Refused}
use Rattle.roster_file.specs.declared.Entry.{Entry}

-- the account's number: 2 bytes after the mark
abbrev pub number_in : List ℕ → (at : ℕ) → ℕ
number_in file at = number_at file (at + 2)

-- the name of a `JN` or `MV` record: 8 bytes after the number
abbrev pub name_in : List ℕ → (at : ℕ) → List ℕ
name_in file at = bytes_at file (at + 4) 8

-- the label of the policy that the record names, if one has the name
unfoldable pub target_in : (policy : List ℕ) (labels : ℕ) → List ℕ → (at : ℕ) → Option ℕ
target_in policy labels file at = label_named policy labels (name_in file at)

-- a record by its mark, with `left` bytes from its start on: 2, "a mark not belonging to this file"; 3, "record cut short", that is, under 12 bytes for
-- `JN` and `MV` and under 4 for the others
unfoldable pub marked_entry : (policy : List ℕ) (labels : ℕ) → List ℕ → (at left : ℕ) → Entry
marked_entry policy labels file at left =
    let mark = bytes_at file at 2 in
    cond (same_bytes mark JN) (cond (ltb left 12) (Refused 3) (Join (number_in file at) (target_in policy labels file at)))
    (cond (same_bytes mark MV) (cond (ltb left 12) (Refused 3) (Move (number_in file at) (target_in policy labels file at)))
    (cond (same_bytes mark HD) (cond (ltb left 4) (Refused 3) (Hold (number_in file at)))
    (cond (same_bytes mark RL) (cond (ltb left 4) (Refused 3) (Release (number_in file at)))
    (cond (same_bytes mark WD) (cond (ltb left 4) (Refused 3) (Withdraw (number_in file at)))
    (Refused 2)))))

-- the record that starts at a byte before the file's end; 2, "a single byte left"
unfoldable pub entry_at : (policy : List ℕ) (labels : ℕ) → List ℕ → (at : ℕ) → Entry
entry_at policy labels file at = cond (ltb (length file - at) 2) (Refused 2) (marked_entry policy labels file at (length file - at))

-- how many bytes a record has; none if it is refused as it is read
abbrev pub size_of : Entry → ℕ
size_of (Join number target) = 12
size_of (Move number target) = 12
size_of (Hold number) = 4
size_of (Release number) = 4
size_of (Withdraw number) = 4
size_of (Refused n) = 0
