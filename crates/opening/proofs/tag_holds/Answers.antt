-- `opening::tag_holds` meets its contract.
use Rattle.sealed_file.proofs.Parts.{tag_compared}
use Rattle.opening.proofs.tag_holds.Goals as goal

pub returns : goal.returns
returns c =
    let t = c in
    let s = t in
    tag_compared s.args.file.now s.requires.0 s.args.key s.requires.1 t.tag-tag.ensures c.same_tag.ensures
