-- `sets::with_label` meets its contract. Invariant: the first l sizes are filled in.
use Prim.Native.Nat.{◌+◌}
use mathlib.Core.Path.{◌≡◌, refl, ◌∙◌}
use native.Mathlib.Omega.{arith}
use Rattle.lists.specs.Tables.{listed}
use Rattle.lists.proofs.Tables.{fill_more}
use Rattle.order.specs.Table.{entry_at}
use Rattle.weights.specs.Tables.{entries, set_size, sizes_below}
use Rattle.sets.proofs.Sizes.{sizes_small, sizes_turn}
use Rattle.sets.proofs.with_label.Goals as goal

pub loop-l-init : goal.loop-l-init
unfolding listed
loop-l-init c = refl

pub counted-requires : goal.counted-requires
counted-requires c =
    let s = c in
    let a = s.args in
    sizes_small (entry_at a.rows.now) (entries a.parents.now) a.m c.loop-l.l a.labels a.sizes s.requires.3 (omega arith) (omega arith)

pub loop-l-preserved : goal.loop-l-preserved
loop-l-preserved c =
    let l = c.loop-l in
    let s = c in
    let a = s.args in
    let le = entry_at a.rows.now in
    let parent = entries a.parents.now in
    let held = c.in_smallest-held in
    let turn = c.counted.ensures ∙ sizes_turn le parent a.m l.l a.labels a.sizes s.requires.3 (omega arith) held.result held.ensures in
    rw (l.invariant, turn) (fill_more (set_size (a.m + 1) le parent) 64 0 l.l (omega arith))

pub returns : goal.returns
unfolding sizes_below
returns c =
    let l = c.loop-l in
    let end : l.l ≡ c.args.labels = omega arith in
    rw end at l.invariant
