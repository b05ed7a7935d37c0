-- The records that have no name.
use Rattle.std.specs.Prelude.{◌≡◌, ℕ, ◌<◌, ◌≤◌, cond, List, ltb}
use Rattle.format.specs.Bytes.{bytes_at, same_bytes}
use Rattle.format.specs.Marks.{HD, RL, WD}
use Rattle.roster_file.specs.File.{number_in}
use Rattle.roster_file.specs.declared.Entry.TheVariants.{Hold, Release, Withdraw, Refused}
use Rattle.roster_file.specs.declared.Entry.{Entry}

-- a record by its mark, as in crate `roster_file`, where the mark is neither `JN` nor `MV`
unfoldable pub short_entry : List ℕ → (at left : ℕ) → Entry
short_entry file at left =
    let mark = bytes_at file at 2 in
    cond (same_bytes mark HD) (cond (ltb left 4) (Refused 3) (Hold (number_in file at)))
    (cond (same_bytes mark RL) (cond (ltb left 4) (Refused 3) (Release (number_in file at)))
    (cond (same_bytes mark WD) (cond (ltb left 4) (Refused 3) (Withdraw (number_in file at)))
    (Refused 2)))

-- a record of so many bytes, of which so many are left: what is read of it, or a refusal where some are missing
pub record Whole (size left : ℕ) (reads : Entry → Type 0) (entry : Entry) : Type 0 where
  pub missing : left < size → entry ≡ Refused 3
  pub whole : size ≤ left → reads entry
