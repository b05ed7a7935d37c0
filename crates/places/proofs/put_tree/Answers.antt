-- `places::put_tree` meets its contract.
use Rattle.buffers.proofs.Writes.{put_next}
use Rattle.decimals.specs.Text.{bytes_of}
use Rattle.places.specs.Told.{tree_line}
use Rattle.places.proofs.put_tree.Goals as goal

pub returns : goal.returns
unfolding bytes_of tree_line
returns c =
    let l = c in
    let p = l in
    put_next p.put_bytes-next.ensures l.put_line.ensures
