-- The whole roster file (02, Ask 4): "It must behave as that small machine does, record by record, from an empty roster."
use Rattle.std.specs.Prelude.{ℕ, zero, suc, ◌+◌, cond, List, leb, length}
use Rattle.roster_file.specs.File.{entry_at, size_of}
use Rattle.roster_file.specs.Machine.{Change, sets, refuses, empty_roster, with_standing, account_of, asked_of}
use Rattle.roster_file.specs.declared.Entry.{Entry}
use Rattle.roster_file.specs.declared.Roster.{Roster}
use Rattle.roster_file.specs.declared.Stop.{Stop}

-- reading stops at a byte, under a number, with this roster in hand
abbrev pub stopped : (refusal at : ℕ) → Roster → Stop
stopped refusal at roster = record { refusal = refusal; at = at; roster = roster }

-- after a record that is not refused the rest is read, with the roster as the record leaves it; "The first refused record refuses its whole file"
abbrev pub on_change : (rest : ℕ → Roster → Stop) → (at : ℕ) → Roster → Entry → Change → Stop
on_change rest at roster entry (sets s) = rest (at + size_of entry) (with_standing roster (account_of entry) s)
on_change rest at roster entry (refuses n) = stopped n at roster

-- where reading stops, from the record that starts at byte `at` on, for up to n records
unfoldable pub read_from : ℕ → (policy : List ℕ) (labels : ℕ) → List ℕ → (at : ℕ) → Roster → Stop
read_from zero policy labels file at roster = stopped 0 at roster
read_from (suc n) policy labels file at roster =
    cond (leb (length file) at) (stopped 0 at roster)
    (let entry = entry_at policy labels file at in on_change (read_from n policy labels file) at roster entry (asked_of roster entry))

-- the stop of a file, with the names of so many labels of a policy: a file has fewer records than bytes
unfoldable pub stop_of : (policy : List ℕ) (labels : ℕ) → List ℕ → Stop
stop_of policy labels file = read_from (length file) policy labels file 0 empty_roster
