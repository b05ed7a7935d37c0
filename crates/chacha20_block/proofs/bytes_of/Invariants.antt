-- `chacha20_block::bytes_of` meets its contract. The invariant: the bytes of the first i words are written.
use mathlib.Core.Path.{◌≡◌}
use Rattle.chacha20_block.proofs.Steps.{written}
use Rattle.chacha20_block.proofs.bytes_of.Given as goal

abbrev pub invariant-loop-i : goal.invariant-loop-i
invariant-loop-i l = l.out ≡ written l.fn.s l.i
