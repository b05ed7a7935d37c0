-- `secrets::with_parents` meets its contract. Invariant: the parents of the needed labels from m on are marked.
use mathlib.Core.Path.{◌≡◌}
use lib.ListN.{length}
use Rattle.secrets.specs.Asks.{Needed}
use Rattle.secrets.proofs.with_parents.Given as goal

abbrev pub invariant-loop-m : goal.invariant-loop-m
invariant-loop-m l = Needed l.initial.needed l.needed l.parents l.m l.labels × (length l.needed ≡ 64)
