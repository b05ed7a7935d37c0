-- `label_lines::put_name` meets its contract.
use mathlib.Core.Path.{sym}
use native.Mathlib.Omega.{arith}
use lib.Seq.{length-take-le}
use Rattle.buffers.proofs.Writes.{put_next}
use Rattle.format.proofs.Padding.{unpadded_short, unpadded_taken}
use Rattle.label_lines.specs.Labels.{name_line}
use Rattle.label_lines.proofs.put_name.Goals as goal

pub returns : goal.returns
unfolding name_line
returns c =
    let q = c in
    let p = q in
    let u = p.unpadded_length-length in
    let r = p.read_name-name in
    put_next (rw (unpadded_taken _ r.result u.result r.ensures u.ensures) at p.put_bytes-end.ensures) q.put_bytes.ensures

pub slice_bounds-name-end : goal.slice_bounds-name-end
slice_bounds-name-end c = omega (arith, unpadded_short c.read_name-name.result, c.unpadded_length-length.ensures)

pub slice_bounds-put_bytes-end : goal.slice_bounds-put_bytes-end
slice_bounds-put_bytes-end c =
    let u = c.unpadded_length-length in
    let n = c.read_name-name.result in
    sym (length-take-le u.result n (omega (arith, unpadded_short n, u.ensures)))
