-- `answers::print` meets its contract: what a call says lies within the buffer.
use Prim.Native.Nat.{◌≤◌}
use mathlib.Core.Path.{sym}
use native.Mathlib.Omega.{arith}
use lib.ListN.{length}
use lib.Seq.{length-take-le}
use Rattle.buffers.proofs.Writes.{put_length}
use Rattle.answers.proofs.print.Goals as goal

pub slice_bounds-text-end : goal.slice_bounds-text-end
slice_bounds-text-end c = let put = c.put_text-length.ensures in
    omega (arith, put.fits, put.behind, put_length put)

pub slice_bounds-write-end : goal.slice_bounds-write-end
slice_bounds-write-end c = let put = c.put_text-length.ensures in
    let h : c.put_text-length.result ≤ length c.put_text-length.new.out = omega (arith, put.fits, put.behind, put_length put) in
    sym (length-take-le c.put_text-length.result c.put_text-length.new.out h)
