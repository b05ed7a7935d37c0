-- Where reading has come to in a roster file.
use Rattle.std.specs.Prelude.{ℕ, ◌+◌, Bool, false, cond, List, eqb, ltb, length}
use Rattle.roster_file.specs.File.{size_of}
use Rattle.roster_file.specs.Whole.{stopped}
use Rattle.roster_file.specs.declared.Entry.{Entry}
use Rattle.roster_file.specs.declared.Roster.{Roster}
use Rattle.roster_file.specs.declared.Stop.{Stop}
use Rattle.roster_reading.specs.declared.Place.{Place}

-- whether a record is read at byte `at`: none was refused, and the file goes on
unfoldable pub goes_on : List ℕ → (refusal at : ℕ) → Bool
goes_on file refusal at = cond (eqb refusal 0) (ltb at (length file)) false

-- the byte after a record at byte `at`, or `at` if the record was refused
unfoldable pub place_after : Entry → (refusal at : ℕ) → ℕ
place_after entry refusal at = cond (eqb refusal 0) (at + size_of entry) at

-- the stop at a place, with this roster in hand
abbrev pub stop_at : Place → Roster → Stop
stop_at place roster = stopped place.refusal place.at roster
