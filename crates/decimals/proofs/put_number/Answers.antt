-- `decimals::put_number` meets its contract.
use Rattle.buffers.proofs.Writes.{put_next}
use Rattle.decimals.proofs.put_number.Goals as goal

pub returns : goal.returns
returns c =
    let d = c in
    let b = d in
    put_next b.put_bytes-behind.ensures d.put_decimal.ensures
