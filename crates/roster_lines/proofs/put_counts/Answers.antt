-- `roster_lines::put_counts` meets its contract. Invariant: the lines of the first l labels are written.
use mathlib.Core.Path.{refl, ap, ◌∙◌}
use native.Mathlib.Omega.{arith}
use lib.ListN.{length, take}
use Rattle.std.proofs.Common.{◌≡◌, ◌<◌, length-take-le}
use Rattle.std.proofs.lemmas.List.{get_or-take}
use Rattle.buffers.proofs.Writes.{put_next, put_nothing}
use Rattle.lists.proofs.Concat.{concat_fit}
use Rattle.roster_answers.specs.RosterText.{count_line}
use Rattle.weights.specs.Tables.{entries}
use Rattle.roster_lines.proofs.Lines.{concat_none, concat_more, count_line_lem}
use Rattle.roster_lines.proofs.put_counts.Goals as goal

pub loop-l-init : goal.loop-l-init
loop-l-init c =
    let a = c.args in
    (refl, rw (concat_none (count_line a.policy.now (entries a.counts))) (put_nothing a.out.now a.start (omega arith)))

pub put_count-at-requires : goal.put_count-at-requires
put_count-at-requires c =
    let l = c.loop-l in
    let a = c.args in
    let count = entries a.counts in
    let long : length (take a.labels a.counts) ≡ a.labels = length-take-le _ _ (omega arith) in
    let below : l.l < a.labels = omega (arith, long) in
    let f = concat_fit (count_line a.policy.now count) a.labels l.l below in
    let e = ap length (count_line_lem a.policy.now count l.l (c.from.ensures ∙ get_or-take a.labels a.counts l.l 0 below)) in
    (omega arith, omega (arith, e))

pub loop-l-preserved : goal.loop-l-preserved
loop-l-preserved c =
    let l = c.loop-l in
    let a = c.args in
    let long : length (take a.labels a.counts) ≡ a.labels = length-take-le _ _ (omega arith) in
    let below : l.l < a.labels = omega (arith, long) in
    let e = count_line_lem a.policy.now (entries a.counts) l.l (c.from.ensures ∙ get_or-take a.labels a.counts l.l 0 below) in
    (omega arith, rw (concat_more (count_line a.policy.now (entries a.counts)) l.l) (put_next l.invariant.1 (rw e at c.put_count-at.ensures)))

pub returns : goal.returns
returns c =
    let a = c.args in
    let long : length (take a.labels a.counts) ≡ a.labels = length-take-le _ _ (omega arith) in
    let end : c.loop-l.l ≡ a.labels = omega (arith, long) in
    rw (← end) c.loop-l.invariant.1
