-- `poly1305::bytes_of` meets its contract.
use Rattle.poly1305_limbs.specs.Limbs.{words_value}
use Rattle.poly1305.proofs.Numbers.{words_written}
use Rattle.poly1305.proofs.bytes_of.Goals as goal

pub returns : goal.returns
unfolding words_value
returns c =
    let p4 = c in
    let p3 = p4 in
    let p2 = p3 in
    let p1 = p2 in
    let s = p1 in
    let n = s.args.n in
    words_written n.w0 n.w1 n.w2 n.w3
    s.requires.w0_small s.requires.w1_small s.requires.w2_small p1.put_word.ensures p2.put_word-2.ensures p3.put_word-3.ensures
    p4.put_word-4.ensures
