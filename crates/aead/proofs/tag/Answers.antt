-- `aead::tag` meets its contract.
use Rattle.aead.proofs.Data.{tag_made}
use Rattle.aead.proofs.tag.Goals as goal

pub returns : goal.returns
returns c =
    let d = c in
    let o = d in
    let a = o.args in
    tag_made a.key a.nonce a.aad.now a.ciphertext.now o.one_time_key-once.ensures d.clamped.ensures.1 d.absorb_data-total.ensures.1 c.finish.ensures
