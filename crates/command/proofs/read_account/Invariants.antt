-- `command::read_account` meets its contract. Invariant: the first i bytes are digits, and x stands for what they say.
use Rattle.command.proofs.Numbers.{Reading}
use Rattle.command.proofs.read_account.Given as goal

abbrev pub invariant-loop-byte : goal.invariant-loop-byte
invariant-loop-byte l = Reading l.typed l.x l.byte-index
