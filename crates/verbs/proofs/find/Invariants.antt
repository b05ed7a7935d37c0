-- `verbs::find` meets its contract. Invariant: none of the first i rows is the verb.
use Prim.Native.Nat.{◌+◌, ◌-◌, ◌≤◌}
use mathlib.Core.List.{map}
use mathlib.Core.Path.{◌≡◌}
use lib.ListN.{drop}
use Rattle.format.specs.Names.{unpadded}
use Rattle.verbs.specs.Verbs.{place_of}
use Rattle.verbs.proofs.find.Given as goal

abbrev pub invariant-loop-i : goal.invariant-loop-i
invariant-loop-i l = (l.i ≤ 16) × (place_of (map unpadded l.words) l.word ≡ l.i + place_of (map unpadded (drop l.i l.words)) l.word)

abbrev pub decreases-loop-i : goal.decreases-loop-i
decreases-loop-i l = 16 - l.i
