-- `chacha20_block::start` meets its contract.
use native.Mathlib.Omega.{arith}
use Rattle.chacha20_block.proofs.Steps.{start_written}
use Rattle.chacha20_block.proofs.start.Goals as goal

pub returns : goal.returns
returns c =
    let k = c in
    let s = k.args in
    start_written s.key s.counter _ (omega arith) k.load.ensures s.nonce _ (omega arith) c.load-2.ensures
