-- `sealed_parts::put_ciphered` meets its contract.
use mathlib.Core.Path.{ap, ◌∙◌}
use Rattle.aead.proofs.Laws.{ciphered_length}
use Rattle.aead.specs.Aead.{ciphered}
use Rattle.sealed_parts.proofs.Replaced.{put_part, put_replaced}
use Rattle.sealed_parts.proofs.put_ciphered.Goals as goal

pub returns : goal.returns
returns c =
    let d = c in
    let w = d in
    let a = w.args in
    let p = w.put_bytes-end.ensures in
    let e = d.cipher.ensures ∙ ap (ciphered a.key a.nonce) (put_part p) in
    rw e (put_replaced p (ciphered a.key a.nonce a.text.now) (ciphered_length a.key a.nonce a.text.now))
