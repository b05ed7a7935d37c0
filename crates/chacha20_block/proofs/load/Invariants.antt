-- `chacha20_block::load` meets its contract. The invariant: the first i words are written.
use mathlib.Core.Path.{◌≡◌}
use Rattle.lists.specs.Buffer.{pasted}
use Rattle.chacha20_block.specs.ChaCha20.{words}
use Rattle.chacha20_block.proofs.load.Given as goal

abbrev pub invariant-loop-i : goal.invariant-loop-i
invariant-loop-i l = l.s ≡ pasted l.initial.s l.at (words l.bytes l.i)
