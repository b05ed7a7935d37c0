-- `poly1305::absorb` meets its contract.
use mathlib.Core.Path.{refl}
use Prim.Native.Nat.{◌%◌}
use native.Mathlib.Omega.{arith}
use Rattle.poly1305_limbs.specs.Prime.{prime}
use Rattle.poly1305_limbs.specs.Limbs.{value, multiplier_value, words_value}
use Rattle.poly1305.specs.Poly1305.{absorbed}
use Rattle.poly1305.proofs.Blocks.{absorbed_turn}
use Rattle.poly1305.proofs.absorb.Goals as goal

pub loop-block-init : goal.loop-block-init
unfolding absorbed
loop-block-init c = (c.requires.0, refl)

pub loop-block-preserved : goal.loop-block-preserved
loop-block-preserved c =
    let s = c.args in (
      c.step-a.ensures.0,
      absorbed_turn (multiplier_value s.r) (value s.h % prime) s.message.now c.loop-block.block-index (value c.loop-block.a % prime)
          (value c.step-a.result % prime) (words_value c.words_at.result) (omega arith) c.loop-block.invariant.1
          (rw c.as_chunks.ensures.front at c.words_at.ensures.1) c.step-a.ensures.1,
    )
