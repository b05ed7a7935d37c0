-- `opening::form_refusal` meets its contract.
use mathlib.Core.Path.{sym, ◌∙◌}
use native.Mathlib.Omega.{arith}
use Rattle.sealed_file.proofs.Rows.{sealed_22, form_marked, form_unmarked}
use Rattle.sealed_file.specs.Rows.{short, long}
use Rattle.opening.proofs.form_refusal.Goals as goal

pub returns-then-file-lt38 : goal.returns-then-file-lt38
returns-then-file-lt38 c = sym (sealed_22 c.args.file.now (short (omega arith)))

pub returns-then-file-gt32806 : goal.returns-then-file-gt32806
returns-then-file-gt32806 c = sym (sealed_22 c.args.file.now (long (omega arith)))

pub returns-then-marked : goal.returns-then-marked
returns-then-marked c =
    let m = c in
    let a = m.args in
    form_marked a.file.now (omega arith) (omega arith) (sym m.marked.ensures ∙ c.if-marked.true)

pub returns : goal.returns
returns c =
    let m = c in
    let a = m.args in
    form_unmarked a.file.now (sym m.marked.ensures ∙ c.if-marked.false)
