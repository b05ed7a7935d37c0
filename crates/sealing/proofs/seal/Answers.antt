-- `sealing::seal` meets its contract: the key's refusal, 22, or the sealed file handed out.
use native.Mathlib.Omega.{arith}
use Rattle.seal_answers.proofs.Sealing.{keyless, named, other_nonce, long_text, sealing}
use Rattle.sealing.proofs.seal.Goals as goal

pub returns-then-answer-ne0 : goal.returns-then-answer-ne0
returns-then-answer-ne0 c =
    let k = c in
    let a = k.args in
    keyless a.policy.now a.name.now a.root.now a.nonce.now a.text.now a.out.now k.issuer_key-answer.ensures (omega arith) c.refuse.ensures

pub returns-then-nonce-ne12 : goal.returns-then-nonce-ne12
returns-then-nonce-ne12 c =
    let i = c in
    let k = i in
    let a = k.args in
    other_nonce a.policy.now a.name.now a.root.now a.nonce.now a.text.now a.out.now k.issuer_key-answer.ensures i.if-answer-ne0.false c.if-nonce-ne12.true c.refuse-then-nonce-ne12.ensures

pub returns-then-text-gt32768 : goal.returns-then-text-gt32768
returns-then-text-gt32768 c =
    let i = c in
    let k = i in
    let a = k.args in
    long_text a.policy.now a.name.now a.root.now a.nonce.now a.text.now a.out.now k.issuer_key-answer.ensures i.if-answer-ne0.false c.if-text-gt32768.true c.refuse-then-text-gt32768.ensures

pub read_name-requires : goal.read_name-requires
read_name-requires c =
    let i = c in
    let k = i in
    let a = k.args in
    let size = named a.policy.now a.name.now a.root.now a.nonce.now a.text.now a.out.now k.issuer_key-answer.ensures i.if-answer-ne0.false in
    omega (arith, size)

pub returns : goal.returns
returns c =
    let h = c in
    let n = h in
    let i = n in
    let k = i in
    let a = k.args in
    sealing a.policy.now a.name.now a.root.now a.nonce.now a.text.now a.out.now k.issuer_key-answer.ensures i.if-answer-ne0.false
    n.if-nonce-ne12.false (omega arith) n.read_name.ensures n.read_nonce.ensures h.hand_out_sealed.ensures.0 h.hand_out_sealed.ensures.1
