-- `recounts::put_counts` meets its contract. Invariant: the first l counts are written.
use Rattle.std.proofs.Common.{◌≡◌, ◌<◌, refl, ap, ◌∙◌, length, take, arith, length-take-le}
use Rattle.std.proofs.lemmas.List.{get_or-take}
use Rattle.policy_file.specs.Counts.{recounted}
use Rattle.weights.specs.Tables.{entries}
use Rattle.recounts.proofs.Turns.{recounted_next}
use Rattle.recounts.proofs.put_counts.Goals as goal

pub loop-l-init : goal.loop-l-init
unfolding recounted
loop-l-init c = refl

pub loop-l-preserved : goal.loop-l-preserved
loop-l-preserved c =
    let l = c.loop-l in
    let a = c.args in
    let long : length (take a.labels a.counts) ≡ a.labels = length-take-le _ _ (omega arith) in
    let below : l.l < a.labels = omega (arith, long) in
    c.put_count.ensures ∙ rw (get_or-take a.labels a.counts l.l 0 below, l.invariant) (recounted_next a.file.now (entries a.counts) l.l)

pub returns : goal.returns
returns c =
    let a = c.args in
    let long : length (take a.labels a.counts) ≡ a.labels = length-take-le _ _ (omega arith) in
    let end : c.loop-l.l ≡ a.labels = omega (arith, long) in
    c.loop-l.invariant ∙ ap (recounted a.file.now (entries a.counts)) end
