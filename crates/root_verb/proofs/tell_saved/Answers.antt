-- `root_verb::tell_saved` meets its contract: what was written is said.
use mathlib.Core.Path.{ap, ◌∙◌}
use Rattle.buffers.proofs.Writes.{put_front}
use Rattle.fingerprint.specs.declared.RootFingerprint.{RootFingerprint}
use Rattle.lines.specs.Lines.{fingerprint_line}
use Rattle.outcomes.proofs.Ending.{ends_as, ends_said}
use Rattle.root_verb.proofs.tell_saved.Goals as goal

pub returns-in-Some : goal.returns-in-Some
returns-in-Some c =
    let p = c in
    let print = ap (λ (m : RootFingerprint). fingerprint_line m.bytes) p.fingerprint-made.ensures in
    let e = c.ended_with.ensures in
    rw c.in-Some.is (e.0, ends_said _ c.ended_with.result (ends_as _ _ c.ended_with.result _ (λ _. put_front p.put_fingerprint-end.ensures ∙ print) e.1))
