-- `costs::cost` meets its contract: the total with one account more is that of the accounts with one more, and it is no less than today's.
use native.Mathlib.Omega.{arith}
use Rattle.order.specs.Table.{entry_at}
use Rattle.trees.proofs.Growth.{ceiling_short}
use Rattle.trees.specs.Growth.{cost}
use Rattle.costs.proofs.Turns.{total_grown}
use Rattle.costs.proofs.cost.Goals as goal

pub overflow_sub-result : goal.overflow_sub-result
overflow_sub-result c =
    let p = c in
    let m = p in
    let s = m in
    let a = s.args in
    omega (
      arith,
      total_grown a.labels (entry_at a.rows.now) a.counts m.one_more-more.result a.l p.plan_labels-grown.ensures m.one_more-more.ensures,
      s.requires.4,
      s.requires.5.least,
    )

pub overflow_cast-result : goal.overflow_cast-result
overflow_cast-result c =
    let p = c in
    let m = p in
    let s = m in
    let a = s.args in
    omega (
      arith,
      total_grown a.labels (entry_at a.rows.now) a.counts m.one_more-more.result a.l p.plan_labels-grown.ensures m.one_more-more.ensures,
      s.requires.4,
      s.requires.5.most,
      ceiling_short a.labels (entry_at a.rows.now) a.l,
    )

pub returns : goal.returns
unfolding cost
returns c =
    let p = c in
    let m = p in
    let s = m in
    let a = s.args in
    rw (total_grown a.labels (entry_at a.rows.now) a.counts m.one_more-more.result a.l p.plan_labels-grown.ensures m.one_more-more.ensures, s.requires.4)
