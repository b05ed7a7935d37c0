-- `key_verb::key` meets its contract: it ends by what `issuer_key` answers.
use Rattle.buffers.proofs.Writes.{put_front}
use Rattle.outcomes.proofs.Ending.{ends_as}
use Rattle.key_verb.proofs.key.Goals as goal

pub returns : goal.returns
returns c =
    let p = c in
    let f = p in
    let k = f in
    let e = c.ended_with.ensures in
    let said = ends_as _ _ c.ended_with.result _ (λ _. put_front p.put_key-end.ensures) e.1 in
    let told = rw (k.issuer_key-found.ensures, f.fingerprint-made.ensures) at said in
    rw c.in-Some.is (e.0, told)
