-- `seal_verb::tell_saved` meets its contract: what was written is said.
use Rattle.buffers.proofs.Writes.{put_front}
use Rattle.outcomes.proofs.Ending.{ends_as, ends_said}
use Rattle.seal_verb.proofs.tell_saved.Goals as goal

pub returns-in-Some : goal.returns-in-Some
returns-in-Some c =
    let p = c in
    let e = c.ended_with.ensures in
    let said = ends_as _ _ c.ended_with.result _ (λ _. put_front p.put_sealed-end.ensures) e.1 in
    rw c.in-Some.is (e.0, rw p.fingerprint-made.ensures at (ends_said _ c.ended_with.result said))
