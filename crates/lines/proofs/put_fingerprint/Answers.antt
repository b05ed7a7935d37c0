-- `lines::put_fingerprint` meets its contract.
use Rattle.buffers.proofs.Writes.{put_next}
use Rattle.decimals.specs.Text.{bytes_of}
use Rattle.lines.specs.Lines.{fingerprint_line}
use Rattle.lines.proofs.put_fingerprint.Goals as goal

pub returns : goal.returns
unfolding bytes_of fingerprint_line
returns c =
    let h = c in
    put_next h.put_bytes-next.ensures h.put_hex.ensures
