-- `order_table::joined` meets its contract. The loop's invariant: the first l entries are filled.
use mathlib.Core.Path.{◌≡◌, ◌∙◌}
use native.Mathlib.Omega.{arith}
use lib.ListN.{length-set}
use Rattle.order_table.proofs.Turns.{joined_step, joined_whole}
use Rattle.order_table.proofs.joined.Goals as goal

pub loop-l-preserved : goal.loop-l-preserved
loop-l-preserved c =
    let h = c.loop-l in
    let a = c.args in
    (length-set h.both h.l _ ∙ h.invariant.0, joined_step a.row a.above.now h.both h.l (omega arith) (omega arith) h.invariant.0 (omega arith) h.invariant.1)

pub returns : goal.returns
returns c =
    let h = c.loop-l in
    let a = c.args in
    let e : h.l ≡ 64 = omega arith in
    joined_whole a.row a.above.now h.both (omega arith) (omega arith) h.invariant.0 (rw e at h.invariant.1)
