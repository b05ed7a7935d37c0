-- `costs::growth_labels` meets its contract. Invariant: the figures of the first l labels are filled in.
use mathlib.Core.Path.{◌≡◌, refl}
use native.Mathlib.Omega.{arith}
use Rattle.growth_answers.specs.Growing.{cost_at, ceiling_at, growing}
use Rattle.lists.proofs.Tables.{fill_more}
use Rattle.lists.specs.Tables.{listed}
use Rattle.order.specs.Table.{entry_at}
use Rattle.weights.specs.Tables.{entries}
use Rattle.costs.proofs.Turns.{total_planned}
use Rattle.costs.proofs.growth_labels.Goals as goal

pub loop-l-init : goal.loop-l-init
unfolding listed
loop-l-init c = (refl, refl)

pub label_figures-label-requires : goal.label_figures-label-requires
label_figures-label-requires c =
    let l = c.loop-l in
    let p = c in
    let s = p in
    let a = s.args in (
      s.requires.0,
      s.requires.1,
      omega arith,
      total_planned a.labels (entry_at a.rows.now) a.counts p.plan_labels-plan.ensures,
      s.requires.2 l.l (omega arith),
      s.requires.3 l.l (omega arith),
    )

pub loop-l-preserved : goal.loop-l-preserved
loop-l-preserved c =
    let l = c.loop-l in
    let a = c.args in
    let count = entries a.counts in
    let le = entry_at a.rows.now in
    let f = c.label_figures-label.ensures in (
      rw (l.invariant.0, f.0) (fill_more (cost_at a.labels count le) 64 0 l.l (omega arith)),
      rw (l.invariant.1, f.1) (fill_more (ceiling_at a.labels count le) 64 0 l.l (omega arith)),
    )

pub returns : goal.returns
unfolding growing
returns c =
    let l = c.loop-l in
    let end : l.l ≡ c.args.labels = omega arith in
    rw (l.invariant.0, l.invariant.1, end) refl
