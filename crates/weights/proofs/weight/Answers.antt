-- `weights::weight` meets its contract. Invariant: the sum is that of the labels gone through.
use Prim.Native.Nat.{ℕ, ◌<◌}
use mathlib.Core.Bool.{Bool, not, cond, false}
use mathlib.Core.List.{[]}
use mathlib.Core.Path.{◌≡◌, refl, ap₂, ◌∙◌}
use native.Mathlib.Omega.{arith}
use lib.ListN.{length, take, get_or}
use Rattle.std.proofs.Common.{rules}
use Rattle.std.proofs.lemmas.List.{get_or-take, length_push, length-take}
use Rattle.std.proofs.lemmas.Slice.Zip.{zip_turn, zip_end}
use Rattle.order.specs.Table.{entry_at}
use Rattle.trees.specs.Sums.{sum_where}
use Rattle.weights.specs.Tables.{entries, weight_from}
use Rattle.weights.proofs.Turns.{where_turn}
use Rattle.weights.proofs.weight.Goals as goal

pub loop-more-init : goal.loop-more-init
unfolding weight_from sum_where
loop-more-init c = (omega arith, refl)

-- the turn's entry of the table
entry_here : (c : goal.After-outside-sum) → let n = length c.loop-more.yielded in (n < c.args.labels) × (c.in-Some.more.now ≡ entries c.args.above.now n) × (c.in-Some.is_above.now ≡ entry_at c.args.rows.now c.args.p n)
entry_here c =
    let a = c.args in
    let l = c.loop-more in
    let n = length l.yielded in
    let t = zip_turn (take a.labels a.above.now) (get_or a.rows.now a.p []) l.yielded c.into_iter-more-iterator.result l.more-iterator c.next.new.self c.next.result (search rules) (search rules) l.yielded_by _ c.in-Some.is c.next.ensures.steps in
    let below : n < a.labels = omega (arith, t.0, length-take a.labels a.above.now) in
    (below, t.2 0 ∙ get_or-take a.labels a.above.now n 0 below, t.3 false)

pub overflow_add-sum : goal.overflow_add-sum
overflow_add-sum c =
    let e = entry_here c in
    omega (arith, c.loop-more.invariant.0, c.outside-sum.ensures.1, e.0, e.1, c.requires.2 (length c.loop-more.yielded))

pub loop-more-preserved : goal.loop-more-preserved
unfolding weight_from
loop-more-preserved c =
    let l = c.loop-more in
    let a = c.args in
    let n = length l.yielded in
    let e = entry_here c in
    let made = c.outside-sum.ensures.0 ∙ ap₂ (λ (x : Bool) (y : ℕ). cond (not x) y 0) e.2 e.1 in
    rw length_push (
      omega (arith, l.invariant.0, c.outside-sum.ensures.1, e.1, c.requires.2 n),
      where_turn (λ k. not (entry_at a.rows.now a.p k)) (entries a.above.now) n l.sum c.outside-sum.result l.invariant.1 made,
    )

pub returns : goal.returns
returns c =
    let a = c.args in
    let l = c.loop-more in
    let t = zip_end (take a.labels a.above.now) (get_or a.rows.now a.p []) l.yielded c.into_iter-more-iterator.result l.more-iterator c.next.new.self c.next.result (search rules) (search rules) l.yielded_by c.in-None.is c.next.ensures.steps in
    let wide : length (get_or a.rows.now a.p []) ≡ 64 = search rules in
    let end : length l.yielded ≡ a.labels = omega (arith, t, length-take a.labels a.above.now) in
    rw end at l.invariant.1
