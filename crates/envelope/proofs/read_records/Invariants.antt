-- `envelope::read_records` meets its contract. Invariant: the file's answer and count are those of its rest, after the records read.
use Prim.Native.Nat.{◌-◌}
use mathlib.Core.Path.{◌≡◌}
use Rattle.envelope_file.proofs.Reading.{Reading}
use Rattle.envelope.proofs.read_records.Given as goal

abbrev pub invariant-loop-own : goal.invariant-loop-own
invariant-loop-own l = (l.read.front.envelope.now ≡ l.envelope) × Reading l.read.front.envelope.now l.read.front.starts l.read.places l.read.front.count

abbrev pub decreases-loop-own : goal.decreases-loop-own
decreases-loop-own l = 65 - l.read.front.count
