-- `roster_stops::count_records` meets its contract. Invariant: so many records are counted up to byte `at`.
use Prim.Native.Nat.{◌-◌}
use Rattle.roster_stops.proofs.Counting.{Counted}
use Rattle.roster_stops.proofs.count_records.Given as goal

abbrev pub invariant-loop-at : goal.invariant-loop-at
invariant-loop-at l = Counted l.policy l.labels l.file l.end l.records l.at

abbrev pub decreases-loop-at : goal.decreases-loop-at
decreases-loop-at l = l.end - l.at
