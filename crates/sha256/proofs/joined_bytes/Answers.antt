-- `sha256::joined_bytes` meets its contract.
use mathlib.Core.Path.{◌≡◌, ◌∙◌}
use native.Mathlib.Omega.{arith}
use Rattle.lists.proofs.Pasted.{zero_filled_none, zero_filled_all}
use Rattle.sha256.proofs.Joined.{joined_length, joined_turn}
use Rattle.sha256.specs.Sha256.{joined}
use Rattle.sha256.proofs.joined_bytes.Goals as goal

pub loop-i-init : goal.loop-i-init
unfolding joined
loop-i-init c = zero_filled_none 32

pub loop-i-preserved : goal.loop-i-preserved
loop-i-preserved c = c.put_word.ensures ∙ joined_turn c.args.h c.loop-i.out c.loop-i.i (omega arith) c.loop-i.invariant

pub returns : goal.returns
returns c =
    let e : c.loop-i.i ≡ 8 = omega arith in
    c.loop-i.invariant ∙ rw e (zero_filled_all 32 (joined c.args.h 8) (joined_length c.args.h 8))
