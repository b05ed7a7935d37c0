-- `sha256::absorb` meets its contract. The invariant: the hash value is that after the blocks so far.
use mathlib.Core.Path.{◌≡◌}
use Rattle.sha256.specs.Sha256.{chained}
use Rattle.sha256.proofs.absorb.Given as goal

abbrev pub invariant-loop-block : goal.invariant-loop-block
invariant-loop-block l = l.h ≡ chained l.initial.h l.message l.block-index
