-- `envelope_tables::held_labels` meets its contract. Invariant: the labels below m are filled in.
use mathlib.Core.Path.{refl}
use native.Mathlib.Omega.{arith}
use Rattle.lists.specs.Tables.{listed}
use Rattle.order.specs.Table.{entry_at}
use Rattle.trees.specs.Weights.{in_smallest}
use Rattle.weights.specs.Tables.{entries}
use Rattle.envelope_tables.proofs.Tables.{mark_filled}
use Rattle.envelope_tables.proofs.held_labels.Goals as goal

pub loop-m-preserved : goal.loop-m-preserved
loop-m-preserved c =
    let p = c.loop-m in
    let a = c.args in
    let held = in_smallest (entry_at a.rows.now) (entries a.parents.now) a.l in
    mark_filled held p.held p.m c.in_smallest.result p.invariant c.in_smallest.ensures (omega arith)

pub loop-m-init : goal.loop-m-init
unfolding listed
loop-m-init c = refl
