-- `answers::answer_version` meets its contract: four parts are written one after the other.
use Rattle.buffers.proofs.Writes.{put_next, put_front}
use Rattle.outcomes.proofs.Ending.{said_as}
use Rattle.answers.proofs.answer_version.Goals as goal

pub returns : goal.returns
returns c =
    let p4 = c in
    let p3 = p4 in
    let p2 = p3 in
    let p1 = p2 in
    let written = put_next (put_next (put_next p1.put_bytes-end.ensures p2.put_bytes-end-2.ensures) p3.put_bytes-end-3.ensures) p4.put_bytes-end-4.ensures in
    (_, said_as 0 c.answer.result (put_front written) c.answer.ensures)
