-- `faults::ill_hung` meets its contract: eight spaces unless the tree file is refused under 12, then the label that the search found.
use mathlib.Core.Path.{sym, ap, ◌∙◌}
use native.Mathlib.Omega.{arith}
use Rattle.faults.proofs.Answers.{hung_policy_refused, hung_other, hung_whole, hung_found, hung_inside}
use Rattle.faults.specs.Faults.{name_found}
use Rattle.plan_answers.proofs.WorkedTables.{read_few, read_accepted, read_order, read_number}
use Rattle.policy_file.specs.declared.Policy.{Policy}
use Rattle.faults.proofs.ill_hung.Goals as goal

pub returns-then-read-ne0 : goal.returns-then-read-ne0
returns-then-read-ne0 c =
    let r = c in
    let a = r.args in
    let same = ap (λ (p : Policy). p.refusal) r.read_policy-read.ensures in
    sym (hung_policy_refused a.policy.now a.tree.now (λ z. c.if-read-ne0.true (same ∙ z)))

pub tree_refusal-requires : goal.tree_refusal-requires
tree_refusal-requires c =
    let r = c in
    read_few r.args.policy.now r.read_policy-read.ensures

pub returns-then-tree_refusal-ne12 : goal.returns-then-tree_refusal-ne12
returns-then-tree_refusal-ne12 c =
    let t = c in
    let r = t in
    let a = r.args in
    let same = r.read_policy-read.ensures in
    let ok = read_accepted a.policy.now same t.if-read-ne0.false in
    let number = read_number a.policy.now same t.order_table-rows.ensures a.tree.now t.tree_refusal.ensures in
    sym (hung_other a.policy.now a.tree.now ok (λ e. c.if-tree_refusal-ne12.true (number ∙ e)))

pub first_ill_hung-found-requires : goal.first_ill_hung-found-requires
first_ill_hung-found-requires c =
    let t = c in
    let r = t in
    let a = r.args in
    let same = r.read_policy-read.ensures in
    let ok = read_accepted a.policy.now same t.if-read-ne0.false in
    let number = read_number a.policy.now same t.order_table-rows.ensures a.tree.now t.tree_refusal.ensures in
    let whole = hung_whole a.policy.now a.tree.now ok (sym number ∙ c.if-tree_refusal-ne12.false) in
    (read_few a.policy.now same, rw same (omega arith))

pub name_found-requires : goal.name_found-requires
name_found-requires c =
    let t = c in
    let r = t in
    let a = r.args in
    let same = r.read_policy-read.ensures in
    let order = read_order a.policy.now same t.order_table-rows.ensures in
    hung_inside a.policy.now a.tree.now (c.first_ill_hung-found.ensures ∙ rw (order, same))

pub returns : goal.returns
returns c =
    let f = c in
    let t = f in
    let r = t in
    let a = r.args in
    let same = r.read_policy-read.ensures in
    let table = t.order_table-rows.ensures in
    let ok = read_accepted a.policy.now same t.if-read-ne0.false in
    let number = read_number a.policy.now same table a.tree.now t.tree_refusal.ensures in
    let order = read_order a.policy.now same table in
    c.name_found.ensures
    ∙ ap (name_found a.policy.now) (f.first_ill_hung-found.ensures ∙ rw (order, same))
    ∙ sym (hung_found a.policy.now a.tree.now ok (sym number ∙ f.if-tree_refusal-ne12.false))
