-- `costs::ceiling` meets its contract. Invariant: the labels below m are counted.
use mathlib.Core.Path.{sym, ◌∙◌}
use native.Mathlib.Omega.{arith}
use Rattle.order.specs.Table.{entry_at}
use Rattle.trees.proofs.Growth.{ceiling_short}
use Rattle.costs.proofs.Turns.{ceiling_turn, ceiling_own}
use Rattle.costs.proofs.ceiling.Goals as goal

pub loop-m-init : goal.loop-m-init
loop-m-init c = sym (ceiling_own (entry_at c.args.rows.now) c.args.l c.requires.2 c.requires.3)

pub counted-below-requires : goal.counted-below-requires
counted-below-requires c =
    let l = c.loop-m in
    let a = c.args in
    omega (arith, l.invariant, ceiling_short l.m (entry_at a.rows.now) a.l)

pub loop-m-preserved : goal.loop-m-preserved
loop-m-preserved c =
    let l = c.loop-m in
    let a = c.args in
    c.counted-below.ensures ∙ ceiling_turn (entry_at a.rows.now) a.l l.m l.below l.invariant
