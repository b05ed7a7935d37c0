-- `roster_reading::read_records` meets its contract. What holds of the place and of the roster from turn to turn is `Reached` (`Turns.antt`).
use Rattle.std.proofs.Common.{ℕ, length}
use Rattle.roster_file.specs.Whole.{read_from}
use Rattle.roster_reading.proofs.Turns.{Reached, left}
use Rattle.roster_reading.proofs.read_records.Given as goal

abbrev pub invariant-loop-at : goal.invariant-loop-at
invariant-loop-at l =
    (t : ℕ) × Reached l.policy l.labels l.file (read_from (length l.file) l.policy l.labels l.file 0 l.initial.roster) t 0 l.at l.roster

abbrev pub decreases-loop-at : goal.decreases-loop-at
decreases-loop-at l = left l.policy l.labels l.file 0 l.at
