-- `parents::choose` meets its contract. Invariant: the first m parents and weights are filled in.
use mathlib.Core.Path.{◌≡◌, refl, ap, ◌∙◌}
use native.Mathlib.Omega.{arith}
use Rattle.lists.specs.Tables.{listed}
use Rattle.lists.proofs.Tables.{fill_more}
use Rattle.order.specs.Table.{entry_at}
use Rattle.trees.specs.Weights.{plan}
use Rattle.parents.specs.Choices.{choice_of, chosen_of}
use Rattle.weights.specs.Tables.{entries, parent_table, held_weight, weight_table}
use Rattle.parents.specs.declared.Choice.{Choice}
use Rattle.parents.proofs.Choices.{choice_short}
use Rattle.parents.proofs.choose.Goals as goal

pub loop-m-init : goal.loop-m-init
unfolding listed
loop-m-init c = (refl, refl)

pub loop-m-preserved : goal.loop-m-preserved
unfolding choice_of
loop-m-preserved c =
    let l = c.loop-m in
    let s = c in
    let a = s.args in
    let n = a.labels in
    let count = entries a.counts.now in
    let le = entry_at a.rows.now in
    let made = c.least_parent-choice.ensures.0 ∙ choice_short count le s.requires.1 l.m n c.past.result (omega arith) c.past.ensures.0 in (
      rw (l.invariant.0, ap (λ (x : Choice). x.parent) made) (fill_more (plan n count le) 64 0 l.m (omega arith)),
      rw (l.invariant.1, ap (λ (x : Choice). x.weight) made) (fill_more (held_weight n count le (plan n count le)) 64 0 l.m (omega arith)),
    )

pub returns : goal.returns
unfolding chosen_of parent_table weight_table
returns c =
    let l = c.loop-m in
    let end : l.m ≡ c.args.labels = omega arith in
    rw (l.invariant.0, l.invariant.1, end) refl
