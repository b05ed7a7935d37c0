-- `sealing::put_head` meets its contract: three writes, one after the other.
use Rattle.buffers.proofs.Writes.{put_next}
use Rattle.sealing.proofs.put_head.Goals as goal

pub returns : goal.returns
returns c =
    let third = c in
    let second = third in
    let first = second in
    put_next (put_next first.put_bytes-marked.ensures second.put_bytes-named.ensures) third.put_bytes.ensures
