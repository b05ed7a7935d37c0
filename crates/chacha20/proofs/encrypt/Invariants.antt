-- `chacha20::encrypt` meets its contract. The invariant: the first j blocks are done.
use mathlib.Core.Path.{◌≡◌}
use Rattle.chacha20.proofs.Stream.{done}
use Rattle.chacha20.proofs.Encrypted.{key_stream}
use Rattle.chacha20.proofs.encrypt.Given as goal

abbrev pub invariant-loop-j : goal.invariant-loop-j
invariant-loop-j l = l.text ≡ done (key_stream l.key l.counter l.nonce) l.initial.text l.j
