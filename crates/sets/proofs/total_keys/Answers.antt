-- `sets::total_keys` meets its contract. Invariant: the total is that of the labels gone through.
use Prim.Native.Nat.{◌*◌, ◌≤◌, ◌<◌}
use mathlib.Core.Path.{◌≡◌, refl, ap₂, ◌∙◌}
use native.Mathlib.Omega.{arith}
use lib.ListN.{length, take}
use Rattle.std.proofs.Common.{rules}
use Rattle.std.proofs.lemmas.List.{get_or-take, length_push, length-take}
use Rattle.std.proofs.lemmas.Slice.Zip.{zip_turn, zip_end}
use Rattle.trees.specs.Sums.{sum}
use Rattle.weights.specs.Tables.{entries, account_keys, key_total}
use Rattle.sets.proofs.Turns.{keys_bound, sum_turn}
use Rattle.sets.proofs.total_keys.Goals as goal

pub loop-count-init : goal.loop-count-init
unfolding sum
loop-count-init c = (refl, omega arith)

-- the keys of the turn's label, with the widths that they are held in
key_here : (c : goal.After-from-in-loop-count)
    → let n = length c.loop-count.yielded in (n < c.args.labels) × (c.from.result ≡ entries c.args.counts.now n) × (c.from-in-loop-count.result ≡ entries c.args.sizes.now n) × (c.from.result * c.from-in-loop-count.result ≤ 16_711_425)
key_here c =
    let a = c.args in
    let l = c.loop-count in
    let n = length l.yielded in
    let t = zip_turn (take a.labels a.counts.now) a.sizes.now l.yielded c.into_iter-count-iterator.result l.count-iterator c.next.new.self c.next.result (search rules) (search rules) l.yielded_by _ c.in-Some.is c.next.ensures.steps in
    let below : n < a.labels = omega (arith, t.0, length-take a.labels a.counts.now) in
    let count : c.from.result ≡ entries a.counts.now n = c.from.ensures ∙ t.2 0 ∙ get_or-take a.labels a.counts.now n 0 below in
    let size : c.from-in-loop-count.result ≡ entries a.sizes.now n = c.from-in-loop-count.ensures ∙ t.3 0 in
    (below, count, size, keys_bound (omega (arith, count, c.fits-counts n)) (omega (arith, size, c.fits-sizes n)))

pub overflow_mul-total : goal.overflow_mul-total
overflow_mul-total c = let k = key_here c in omega (arith, k.3)

pub overflow_add-total : goal.overflow_add-total
overflow_add-total c = let k = key_here c in omega (arith, k.0, k.3, c.loop-count.invariant.1)

pub loop-count-preserved : goal.loop-count-preserved
unfolding account_keys
loop-count-preserved c =
    let l = c.loop-count in
    let a = c.args in
    let n = length l.yielded in
    let k = key_here c in
    rw length_push (
      sum_turn (account_keys (entries a.counts.now) (entries a.sizes.now)) n l.total (c.from.result * c.from-in-loop-count.result) l.invariant.0 (ap₂ ◌*◌ k.1 k.2),
      omega (arith, k.3, l.invariant.1),
    )

pub returns : goal.returns
unfolding key_total
returns c =
    let a = c.args in
    let l = c.loop-count in
    let t = zip_end (take a.labels a.counts.now) a.sizes.now l.yielded c.into_iter-count-iterator.result l.count-iterator c.next.new.self c.next.result (search rules) (search rules) l.yielded_by c.in-None.is c.next.ensures.steps in
    let end : length l.yielded ≡ a.labels = omega (arith, t, length-take a.labels a.counts.now) in
    rw end at l.invariant.0
