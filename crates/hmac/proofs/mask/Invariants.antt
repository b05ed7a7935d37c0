-- `hmac::mask` meets its contract. The invariant: the bytes so far are masked, the rest is as it was.
use mathlib.Core.Path.{◌≡◌}
use mathlib.Core.List.{◌++◌, map}
use lib.Bits.{bit_xor}
use lib.ListN.{take, drop}
use Rattle.hmac.proofs.mask.Given as goal

abbrev pub invariant-loop-byte : goal.invariant-loop-byte
invariant-loop-byte l =
    l.byte-items ≡ map (λ x. bit_xor x l.pad) (take l.byte-index l.fn.block) ++ drop l.byte-index l.fn.block
