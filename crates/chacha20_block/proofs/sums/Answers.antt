-- `chacha20_block::sums` meets its contract.
use mathlib.Core.Path.{refl}
use native.Mathlib.Omega.{arith}
use Rattle.lists.specs.Tables.{listed}
use Rattle.lists.proofs.Tables.{fill_more}
use Rattle.chacha20_block.proofs.Steps.{sum_at, sums_done}
use Rattle.chacha20_block.proofs.sums.Goals as goal

pub loop-i-init : goal.loop-i-init
unfolding listed
loop-i-init c = refl

pub loop-i-preserved : goal.loop-i-preserved
loop-i-preserved c = rw c.loop-i.invariant (fill_more (sum_at c.args.s c.args.t) 16 0 c.loop-i.i (omega arith))

pub returns : goal.returns
returns c = sums_done _ _ _ c.loop-i.i (omega arith) c.loop-i.invariant
