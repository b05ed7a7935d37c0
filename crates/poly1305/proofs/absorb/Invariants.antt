-- `poly1305::absorb` meets its contract. The invariant: the accumulator is that after the blocks so far.
use mathlib.Core.Path.{◌≡◌}
use Prim.Native.Nat.{◌%◌}
use Rattle.poly1305_limbs.specs.Prime.{prime}
use Rattle.poly1305_limbs.specs.Limbs.{value, multiplier_value, Reduced}
use Rattle.poly1305.specs.Poly1305.{absorbed}
use Rattle.poly1305.proofs.absorb.Given as goal

abbrev pub invariant-loop-block : goal.invariant-loop-block
invariant-loop-block l =
    Reduced l.a × (value l.a % prime ≡ absorbed (multiplier_value l.r) (value l.initial.a % prime) l.message l.block-index)
