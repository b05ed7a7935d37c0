-- `chacha20_block::all_rounds` meets its contract. The invariant: the state is that after n times both rounds.
use mathlib.Core.Path.{◌≡◌}
use lib.ListN.{length}
use Rattle.chacha20_block.specs.ChaCha20.{rounds}
use Rattle.chacha20_block.proofs.all_rounds.Given as goal

abbrev pub invariant-loop-n : goal.invariant-loop-n
invariant-loop-n l = (l.s ≡ rounds l.initial.s l._n) × (length l.s ≡ 16)
