-- `hmac::zero_filled` meets its contract.
use native.Mathlib.Omega.{arith}
use Rattle.lists.proofs.Pasted.{copied}
use Rattle.hmac.proofs.zero_filled.Goals as goal

pub returns : goal.returns
returns c =
    rw c.copy_from_slice.ensures.after (copied 64 c.args.bytes.now (omega arith))
