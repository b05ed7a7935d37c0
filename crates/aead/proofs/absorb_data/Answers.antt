-- `aead::absorb_data` meets its contract.
use Rattle.poly1305_limbs.specs.Limbs.{multiplier_value}
use Rattle.aead.proofs.Data.{data_made}
use Rattle.aead.proofs.absorb_data.Goals as goal

pub returns : goal.returns
returns c =
    let l = c in
    let q = l in
    let p = q in
    let a = p.args in (
      c.absorb.ensures.0,
      data_made a.aad.now a.ciphertext.now (multiplier_value a.r) p.nothing.ensures.1 p.absorb_padded-first.ensures.1 q.absorb_padded-second.ensures.1 l.length_block-lengths.ensures c.absorb.ensures.1,
    )
