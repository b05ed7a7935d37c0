-- `secrets::make_secrets` meets its contract. Invariant: the secrets of the needed labels below m are made.
use mathlib.Core.Path.{◌≡◌}
use lib.ListN.{length}
use Rattle.secrets.specs.Asks.{Made}
use Rattle.secrets.proofs.make_secrets.Given as goal

abbrev pub invariant-loop-m : goal.invariant-loop-m
invariant-loop-m l = Made l.policy l.parents l.root l.needed l.secrets l.m × (length l.secrets ≡ 64)
