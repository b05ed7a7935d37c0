-- `name_form::well_formed` meets its contract. Invariant: the name is well formed exactly when its rest is, after what was read.
use mathlib.Core.Path.{◌≡◌}
use lib.ListN.{drop}
use Rattle.name_form.proofs.Names.{rest_formed}
use Rattle.format.specs.Names.{well_formed}
use Rattle.name_form.proofs.well_formed.Given as goal

abbrev pub invariant-loop-byte : goal.invariant-loop-byte
invariant-loop-byte l = well_formed l.name ≡ rest_formed l.some l.padded (drop l.byte-index l.name)
