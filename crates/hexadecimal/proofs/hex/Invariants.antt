-- `hexadecimal::hex` meets its contract. Invariant: the digits of the first i bytes stand at the buffer's start.
use Rattle.hexadecimal.proofs.Hexadecimal.{Printed}
use Rattle.hexadecimal.proofs.hex.Given as goal

abbrev pub invariant-loop-byte : goal.invariant-loop-byte
invariant-loop-byte l = Printed l.bytes l.initial.out l.out l.at l.byte-index
