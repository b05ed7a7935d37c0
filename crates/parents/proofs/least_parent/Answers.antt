-- `parents::least_parent` meets its contract. Invariant: parent is the best of the labels below p, and weight its weight.
use mathlib.Core.Path.{◌≡◌, sym, ◌∙◌}
use native.Mathlib.Omega.{arith}
use Rattle.order.specs.Table.{entry_at}
use Rattle.trees.specs.Weights.{best}
use Rattle.trees.proofs.Ties.{best_early}
use Rattle.weights.specs.Tables.{entries}
use Rattle.weights.proofs.Above.{weight_from_lem}
use Rattle.parents.proofs.Choices.{choice_top, choice_under}
use Rattle.parents.proofs.Turns.{best_one, best_passed, best_taken, best_left}
use Rattle.parents.proofs.least_parent.Goals as goal
use Rattle.parents.proofs.least_parent.Goals.{then-rows-m+then-takes, then-rows-m+else-takes, else-rows-m}

pub returns-then-m-eq0 : goal.returns-then-m-eq0
returns-then-m-eq0 c =
    let a = c.args in
    (choice_top a.labels (entries a.counts.now) (entry_at a.rows.now) a.m c.if-m-eq0.true _ c.from.ensures, omega arith)

pub loop-p-init : goal.loop-p-init
loop-p-init c =
    let t = c.accounts_above-above in
    let a = c.args in
    (best_one a.labels (entries a.counts.now) (entry_at a.rows.now) a.m, c.weight-weight.ensures ∙ weight_from_lem (entries a.counts.now) (entry_at a.rows.now) 0 a.m a.labels t.result t.ensures.0)

pub loop-p-preserved : goal.loop-p-preserved
loop-p-preserved c =
    let l = c.loop-p in
    let t = c.accounts_above-above in
    let a = c.args in
    let n = a.labels in
    let count = entries a.counts.now in
    let le = entry_at a.rows.now in
    let as_weight = weight_from_lem count le l.p a.m n t.result t.ensures.0 in
    elim c.if-rows-m.branch [
      | then-rows-m+then-takes w ↦
          let x = w.weight-weighed in
          let same = x.ensures ∙ as_weight in
          rw (w.parent-is, w.weight-is) (best_taken n count le a.m l.p l.parent l.invariant.0 x.result l.weight same l.invariant.1 w.if-rows-m.true (sym w.takes.ensures ∙ w.if-takes.true), same)
      | then-rows-m+else-takes w ↦
          let x = w.weight-weighed in
          let same = x.ensures ∙ as_weight in
          rw (w.parent-is, w.weight-is) (best_left n count le a.m l.p l.parent l.invariant.0 x.result l.weight same l.invariant.1 w.if-rows-m.true (sym w.takes.ensures ∙ w.if-takes.false), l.invariant.1)
      | else-rows-m w ↦ rw (w.parent-is, w.weight-is) (best_passed n count le a.m l.p l.parent l.invariant.0 w.if-rows-m.false, l.invariant.1)
    ]

pub returns : goal.returns
returns c =
    let l = c.loop-p in
    let a = c.args in
    let end : l.p ≡ a.m = omega arith in
    let count = entries a.counts.now in
    let le = entry_at a.rows.now in
    let e : l.parent ≡ best a.labels count le a.m a.m = rw end at l.invariant.0 in
    (choice_under a.labels count le a.m c.if-m-eq0.false l.parent l.weight e l.invariant.1, omega (arith, best_early a.labels count le a.m a.m))
