-- `envelope_labels::read_names` meets its contract. Invariant: the names of the first k records are filled in.
use Prim.Native.Nat.{◌*◌}
use mathlib.Core.Path.{◌≡◌}
use Rattle.lists.specs.Tables.{filled}
use Rattle.envelope_file.specs.Labels.{name_byte}
use Rattle.envelope_labels.proofs.read_names.Given as goal

abbrev pub invariant-loop-k : goal.invariant-loop-k
invariant-loop-k l = l.names ≡ filled 512 0 (name_byte l.read.front.envelope.now) (8 * l.k)
