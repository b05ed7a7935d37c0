-- `envelope_names::find_record` meets its contract. Invariant: the answer is that of a search from record k on.
use Prim.Native.Nat.{◌-◌, ◌≤◌}
use mathlib.Core.Path.{◌≡◌}
use Rattle.format.specs.Search.{first_from}
use Rattle.envelope_file.specs.File.{carries, record_named}
use Rattle.envelope_names.proofs.find_record.Given as goal

abbrev pub invariant-loop-k : goal.invariant-loop-k
invariant-loop-k l = (l.k ≤ l.records) × (record_named l.envelope l.records l.name ≡ first_from (carries l.envelope l.name) l.k (l.records - l.k))

abbrev pub decreases-loop-k : goal.decreases-loop-k
decreases-loop-k l = l.records - l.k
