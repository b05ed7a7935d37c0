-- `chacha20::xor_into` meets its contract. The invariant: the first i bytes are done.
use mathlib.Core.Path.{◌≡◌}
use Rattle.chacha20.proofs.Xored.{xored_to}
use Rattle.chacha20.proofs.xor_into.Given as goal

abbrev pub invariant-loop-i : goal.invariant-loop-i
invariant-loop-i l = l.part ≡ xored_to l.initial.part l.stream l.i
