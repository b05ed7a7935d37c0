-- `plan_verbs::weigh` meets its contract: it ends by what `weigh` answers.
use Rattle.buffers.proofs.Writes.{put_front}
use Rattle.outcomes.proofs.Ending.{ends_as}
use Rattle.plan_verbs.proofs.weigh.Goals as goal

pub returns : goal.returns
returns c =
    let w = c in
    let e = c.ended_with.ensures in
    let said = ends_as _ _ c.ended_with.result _ (λ _. put_front c.put_weighed-end.ensures) e.1 in
    let told = rw w.weigh-weighed.ensures at said in
    rw c.in-Some.is (e.0, told)
