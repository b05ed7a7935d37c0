-- `sealing::hand_out_sealed` meets its contract: 16 without room, else the file.
use native.Mathlib.Omega.{arith}
use Rattle.buffers.proofs.Handing.{refused_handed, put_handed}
use Rattle.sealed_file.proofs.RoundTrip.{sealed_length}
use Rattle.sealed_file.specs.Sealed.{sealed_file}
use borrow.Author.Rules.{rules}
use Rattle.sealing.proofs.hand_out_sealed.Goals as goal

pub returns-then-out-text : goal.returns-then-out-text
returns-then-out-text c =
    let a = c.args in
    let size = sealed_length a.key a.name a.nonce a.text.now (search rules) (search rules) in
    refused_handed (sealed_file a.key a.name a.nonce a.text.now) a.out.now c.refuse.ensures (omega arith)

pub returns : goal.returns
returns c =
    let p = c in
    let a = p.args in
    put_handed (sealed_file a.key a.name a.nonce a.text.now) a.out.now p.put_sealed.ensures
