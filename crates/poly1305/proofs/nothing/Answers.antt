-- `poly1305::nothing` meets its contract.
use native.Mathlib.Nat.{zero-mod}
use native.Mathlib.Omega.{arith}
use Rattle.poly1305_limbs.specs.Prime.{prime}
use Rattle.poly1305_limbs.specs.Limbs.{value}
use Rattle.poly1305.proofs.nothing.Goals as goal

pub returns : goal.returns
unfolding value
returns c = (omega arith, zero-mod prime)
