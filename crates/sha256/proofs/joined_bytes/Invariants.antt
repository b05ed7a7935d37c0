-- `sha256::joined_bytes` meets its contract. The invariant: the bytes of the first `i` words are written, zeros stand after them.
use mathlib.Core.Path.{◌≡◌}
use Rattle.lists.specs.Buffer.{zero_filled}
use Rattle.sha256.specs.Sha256.{joined}
use Rattle.sha256.proofs.joined_bytes.Given as goal

abbrev pub invariant-loop-i : goal.invariant-loop-i
invariant-loop-i l = l.out ≡ zero_filled 32 (joined l.fn.h l.i)
