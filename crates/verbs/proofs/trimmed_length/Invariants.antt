-- `verbs::trimmed_length` meets its contract. Invariant: after the first `end` bytes there are only spaces.
use Prim.Native.Nat.{◌≤◌}
use mathlib.Core.Path.{◌≡◌}
use lib.ListN.{length}
use Rattle.verbs.specs.Verbs.{trimmed_to}
use Rattle.verbs.proofs.trimmed_length.Given as goal

abbrev pub invariant-loop-end : goal.invariant-loop-end
invariant-loop-end l = (l.end ≤ length l.text) × (trimmed_to l.text (length l.text) ≡ trimmed_to l.text l.end)

abbrev pub decreases-loop-end : goal.decreases-loop-end
decreases-loop-end l = l.end
