-- `chacha20_block::sums` meets its contract. The invariant: the first i sums are stored.
use mathlib.Core.Path.{◌≡◌}
use Rattle.lists.specs.Tables.{filled}
use Rattle.chacha20_block.proofs.Steps.{sum_at}
use Rattle.chacha20_block.proofs.sums.Given as goal

abbrev pub invariant-loop-i : goal.invariant-loop-i
invariant-loop-i l = l.sum-items ≡ filled 16 0 (sum_at l.s l.t) l.i
