-- `weights::accounts_above` meets its contract. Invariant: the first l entries are filled in, and they are small.
use mathlib.Core.Path.{◌≡◌, refl, sym}
use native.Mathlib.Omega.{arith}
use Rattle.lists.specs.Tables.{listed, filled}
use Rattle.lists.proofs.Tables.{fill_more}
use Rattle.order.specs.Table.{entry_at}
use Rattle.weights.specs.Tables.{entries, accounts_above, above_table}
use Rattle.weights.proofs.Above.{small_as, small_more, small_filled}
use Rattle.weights.proofs.accounts_above.Goals as goal

pub loop-l-init : goal.loop-l-init
unfolding listed
loop-l-init c = (refl, λ k h. absurd (omega arith))

pub loop-l-preserved : goal.loop-l-preserved
loop-l-preserved c =
    let l = c.loop-l in
    let a = c.args in
    let f = accounts_above (entries a.counts.now) (entry_at a.rows.now) a.m in
    let e = c.account_above.ensures in
    (rw (l.invariant.0, e.0) (fill_more f 64 0 l.l (omega arith)), small_more f l.l l.invariant.1 (small_as (sym e.0) e.1))

pub returns : goal.returns
unfolding above_table
returns c =
    let l = c.loop-l in
    let a = c.args in
    let f = accounts_above (entries a.counts.now) (entry_at a.rows.now) a.m in
    let end : l.l ≡ a.labels = omega arith in
    let e : l.above ≡ filled 64 0 f a.labels = rw end at l.invariant.0 in
    (e, small_filled f a.labels l.above e (λ k h. l.invariant.1 k (omega (arith, end))))
