-- `label_record::find_name` meets its contract. Invariant: the answer is that of a search from label i on.
use Prim.Native.Nat.{◌-◌, ◌≤◌}
use mathlib.Core.Path.{◌≡◌}
use Rattle.format.specs.Search.{first_from}
use Rattle.policy_file.specs.File.{is_named, label_named}
use Rattle.label_record.proofs.find_name.Given as goal

abbrev pub invariant-loop-i : goal.invariant-loop-i
invariant-loop-i l = (l.i ≤ l.labels) × (label_named l.policy l.labels l.name ≡ first_from (is_named l.policy l.name) l.i (l.labels - l.i))

abbrev pub decreases-loop-i : goal.decreases-loop-i
decreases-loop-i l = l.labels - l.i
