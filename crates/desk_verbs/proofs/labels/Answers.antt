-- `desk_verbs::labels` meets its contract: it ends by what `read_labels` answers.
use mathlib.Core.Path.{ap}
use native.Mathlib.Omega.{arith}
use Rattle.buffers.proofs.Writes.{put_front}
use Rattle.envelope_file.specs.declared.Labels.{Labels}
use Rattle.outcomes.proofs.Ending.{ends_as}
use Rattle.desk_verbs.proofs.Few.{labels_few}
use Rattle.desk_verbs.proofs.labels.Goals as goal

pub put_labels-end-requires : goal.put_labels-end-requires
put_labels-end-requires c =
    let l = c in
    let file = c.in-Some.file.now in
    omega (arith, labels_few file, ap (λ (l : Labels). l.labels) l.read_labels-found.ensures)

pub returns : goal.returns
returns c =
    let p = c in
    let l = p in
    let e = c.ended_with.ensures in
    let said = ends_as _ _ c.ended_with.result _ (λ _. put_front p.put_labels-end.ensures) e.1 in
    let told = rw l.read_labels-found.ensures at said in
    rw c.in-Some.is (e.0, told)
