-- `roster_lines::put_place` meets its contract: a space and a name.
use Rattle.buffers.proofs.Writes.{put_next}
use Rattle.roster_lines.proofs.put_place.Goals as goal

pub returns : goal.returns
returns c =
    let n = c in
    put_next n.put_bytes-behind.ensures n.put_name.ensures
