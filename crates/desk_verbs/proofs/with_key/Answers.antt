-- `desk_verbs::with_key` meets its contract: what is said is what was written.
use Rattle.buffers.proofs.Writes.{put_front}
use Rattle.outcomes.proofs.Ending.{ends_as}
use Rattle.desk_verbs.proofs.with_key.Goals as goal

pub returns : goal.returns
returns c = let e = c.ended_with.ensures in
    (e.0, ends_as _ _ c.ended_with.result _ (λ _. put_front c.put_hex-end.ensures) e.1)
