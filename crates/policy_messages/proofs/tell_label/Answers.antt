-- `policy_messages::tell_label` is safe: what stands before the first space lies within the name.
use Prim.Native.Nat.{◌≤◌}
use mathlib.Core.Path.{sym}
use native.Mathlib.Omega.{arith}
use lib.ListN.{length}
use lib.Seq.{length-take-le}
use Rattle.format.proofs.Padding.{unpadded_short}
use Rattle.policy_messages.proofs.tell_label.Goals as goal

pub slice_bounds-label-end : goal.slice_bounds-label-end
slice_bounds-label-end c = let n = c.unpadded_length-length in
    let name = c.args.label in
    omega (arith, n.ensures, unpadded_short name)

pub slice_bounds-tell_quoted-end : goal.slice_bounds-tell_quoted-end
slice_bounds-tell_quoted-end c = let n = c.unpadded_length-length in
    let name = c.args.label in
    let h : n.result ≤ length name = omega (arith, n.ensures, unpadded_short name) in
    sym (length-take-le n.result name h)
