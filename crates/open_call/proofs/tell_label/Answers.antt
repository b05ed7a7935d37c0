-- `open_call::tell_label` is safe: what stands before the first space lies within the name.
use Prim.Native.Nat.{◌≤◌}
use mathlib.Core.Path.{sym}
use native.Mathlib.Omega.{arith}
use lib.ListN.{length}
use lib.Seq.{length-take-le}
use Rattle.format.proofs.Padding.{unpadded_short}
use Rattle.open_call.proofs.tell_label.Goals as goal

pub slice_bounds-name-end : goal.slice_bounds-name-end
slice_bounds-name-end c =
    let n = c.unpadded_length-length in
    let name = c.read_name-name.result in
    omega (arith, n.ensures, unpadded_short name)

pub slice_bounds-tell_quoted-end : goal.slice_bounds-tell_quoted-end
slice_bounds-tell_quoted-end c =
    let n = c.unpadded_length-length in
    let name = c.read_name-name.result in
    let h : n.result ≤ length name = omega (arith, n.ensures, unpadded_short name) in
    sym (length-take-le n.result name h)
