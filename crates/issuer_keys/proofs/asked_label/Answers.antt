-- `issuer_keys::asked_label` meets its contract.
use mathlib.Core.Path.{sym, ◌∙◌}
use Rattle.issuer_answers.proofs.Asked.{asked_other, asked_read}
use Rattle.issuer_keys.proofs.asked_label.Goals as goal

pub returns-then-name-ne8 : goal.returns-then-name-ne8
returns-then-name-ne8 c =
    let a = c.args in
    sym (asked_other a.policy.now a.name.now a.labels c.if-name-ne8.true)

pub returns : goal.returns
returns c =
    let r = c in
    let a = r.args in
    c.find_name.ensures ∙ asked_read a.policy.now a.name.now a.labels r.if-name-ne8.false r.read_name.ensures
