-- `chacha20_block::bytes_of` meets its contract.
use native.Mathlib.Omega.{arith}
use Rattle.lists.specs.Tables.{concat_below}
use Rattle.lists.proofs.Pasted.{zero_filled_none}
use Rattle.chacha20_block.proofs.Steps.{written_turn, written_done}
use Rattle.chacha20_block.proofs.bytes_of.Goals as goal

pub loop-i-init : goal.loop-i-init
unfolding concat_below
loop-i-init c = zero_filled_none 64

pub loop-i-preserved : goal.loop-i-preserved
loop-i-preserved c = written_turn c.args.s c.loop-i.out _ c.loop-i.i (omega arith) c.loop-i.invariant c.put_word.ensures

pub returns : goal.returns
returns c = written_done _ _ c.loop-i.i (omega arith) c.loop-i.invariant
