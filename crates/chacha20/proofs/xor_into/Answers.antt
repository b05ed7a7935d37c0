-- `chacha20::xor_into` meets its contract.
use mathlib.Core.Path.{refl}
use borrow.Author.Rules.{rules}
use Rattle.chacha20.specs.Encryption.{xored}
use Rattle.chacha20.proofs.Xored.{xored_turn}
use Rattle.chacha20.proofs.xor_into.Goals as goal

pub loop-i-init : goal.loop-i-init
unfolding xored
loop-i-init c = refl

pub loop-i-preserved : goal.loop-i-preserved
loop-i-preserved c =
    xored_turn c.args.part.now c.args.stream (search rules) c.loop-i.part c.loop-i.i (search rules) c.loop-i.invariant
