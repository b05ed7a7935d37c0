-- `opening::open_under` meets its contract: 16 without room, 23 with another tag, else the text.
use mathlib.Core.Path.{sym, ◌∙◌}
use native.Mathlib.Omega.{arith}
use Rattle.open_answers.proofs.Opening.{no_room, other_tag, given}
use Rattle.sealed_file.specs.Sealed.{nonce_in}
use Rattle.opening.proofs.open_under.Goals as goal

pub returns-then-out-end : goal.returns-then-out-end
returns-then-out-end c =
    let s = c in
    no_room s.args.key s.args.file.now s.args.out.now s.requires (omega arith) c.refuse.ensures

pub tag_holds-requires : goal.tag_holds-requires
unfolding nonce_in
tag_holds-requires c =
    let s = c in
    (s.requires, c.read_nonce-nonce.ensures)

pub returns-then-tag_holds : goal.returns-then-tag_holds
unfolding nonce_in
returns-then-tag_holds c =
    let p = c in
    let i = p in
    let t = i in
    let n = t in
    let s = n in
    given s.args.key s.args.file.now s.args.out.now s.requires (omega arith) (sym t.tag_holds.ensures ∙ i.if-tag_holds.true) n.read_nonce-nonce.ensures p.put_ciphered.ensures

pub returns : goal.returns
returns c =
    let t = c in
    let s = t in
    other_tag s.args.key s.args.file.now s.args.out.now s.requires (omega arith) (sym t.tag_holds.ensures ∙ c.if-tag_holds.false) c.refuse-2.ensures
