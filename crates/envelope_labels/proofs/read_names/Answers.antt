-- `envelope_labels::read_names` meets its contract. Invariant: the names of the first k records are filled in.
use Prim.Native.Nat.{ℕ, ◌+◌, ◌-◌}
use mathlib.Core.Path.{◌≡◌, refl, ap, ◌∙◌}
use native.Mathlib.Omega.{arith}
use lib.ListN.{length, get_or, drop, length-drop}
use lib.Seq.{length-take-le}
use Rattle.format.specs.Bytes.{bytes_at}
use Rattle.lists.specs.Tables.{listed}
use Rattle.envelope_file.proofs.Names.{name_stored}
use Rattle.envelope_file.proofs.Starts.{room, name_there}
use Rattle.envelope_labels.proofs.read_names.Goals as goal

pub loop-k-init : goal.loop-k-init
unfolding listed
loop-k-init c = refl

pub overflow_add-at : goal.overflow_add-at
overflow_add-at c =
    let r = c.args.read.now.front in
    omega (arith, room r.envelope.now r.starts r.count r.located c.loop-k.k (omega arith))

pub overflow_add-at-in-loop-k : goal.overflow_add-at-in-loop-k
overflow_add-at-in-loop-k c =
    let r = c.args.read.now.front in
    omega (arith, room r.envelope.now r.starts r.count r.located c.loop-k.k (omega arith))

pub slice_bounds-copy_from_slice-end : goal.slice_bounds-copy_from_slice-end
slice_bounds-copy_from_slice-end c =
    let r = c.args.read.now.front in
    omega (arith, room r.envelope.now r.starts r.count r.located c.loop-k.k (omega arith))

pub loop-k-preserved : goal.loop-k-preserved
loop-k-preserved c =
    let l = c.loop-k in
    let r = c.args.read.now.front in
    let file = r.envelope.now in
    let start : ℕ = get_or r.starts l.k 0 in
    let size : start + 2 + 8 - (start + 2) ≡ 8 = omega arith in
    let copied = c.copy_from_slice.ensures.after ∙ ap (bytes_at file (start + 2)) size in
    let h = room file r.starts r.count r.located l.k (omega arith) in
    let eight = ap length copied ∙ length-take-le 8 (drop (start + 2) file) (omega (arith, length-drop (start + 2) file)) in
    name_stored file l.names c.copy_from_slice.new.self l.k (omega (arith, r.located.few)) l.invariant
    (name_there file l.k start (r.located.begins l.k (omega arith)) copied) eight
