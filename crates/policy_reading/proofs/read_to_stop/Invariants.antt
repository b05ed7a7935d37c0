-- `policy_reading::read_to_stop` meets its contract. Invariant: the file's stop is that of its rest, after what is read so far.
use Prim.Native.Nat.{◌+◌, ◌-◌}
use Rattle.policy_reading.proofs.Records.{Reading, so_far}
use Rattle.policy_reading.proofs.read_to_stop.Given as goal

abbrev pub invariant-loop-count : goal.invariant-loop-count
invariant-loop-count l = Reading l.policy (so_far l.labels l.pairs l.counts l.over)

abbrev pub decreases-loop-count : goal.decreases-loop-count
decreases-loop-count l = 577 - (l.labels + l.pairs)
