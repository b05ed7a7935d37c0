-- `weighing::weigh` meets its contract: each refusal in its turn, then what is worked out is the definition's.
use mathlib.Core.Path.{sym, ap, ◌∙◌}
use native.Mathlib.Omega.{arith}
use Rattle.order.proofs.Exact.{table_falls}
use Rattle.policy_file.proofs.Verdict.{bounds}
use Rattle.policy_file.specs.declared.Policy.{Policy}
use Rattle.plan_answers.proofs.WorkedTables.{read_few, read_accepted, read_order, read_number, gives, offered_rowed, read_weighed}
use Rattle.plan_answers.proofs.WeighAnswer.{weigh_policy_refused, weigh_tree_refused}
use Rattle.plan_answers.specs.Weighing.{refused_weighed}
use Rattle.weighing.proofs.weigh.Goals as goal

pub returns-then-read-ne0 : goal.returns-then-read-ne0
returns-then-read-ne0 c =
    let a = c.args in
    let file = a.policy.now in
    let same = ap (λ (p : Policy). p.refusal) c.read_policy-read.ensures in
    c.refused.ensures ∙ ap refused_weighed same ∙ sym (weigh_policy_refused file a.tree.now (omega arith))

pub tree_refusal-number-requires : goal.tree_refusal-number-requires
tree_refusal-number-requires c =
    let t = c in
    read_few t.args.policy.now t.read_policy-read.ensures

pub returns-then-number-ne0 : goal.returns-then-number-ne0
returns-then-number-ne0 c =
    let t = c in
    let file = t.args.policy.now in
    let tree = t.args.tree.now in
    let same = t.read_policy-read.ensures in
    let ok = read_accepted file same t.if-read-ne0.false in
    let number = read_number file same t.order_table-rows.ensures tree t.tree_refusal-number.ensures in
    c.refused-then-number-ne0.ensures ∙ ap refused_weighed number ∙ sym (weigh_tree_refused file tree ok (omega arith))

pub read_parents-offered-requires : goal.read_parents-offered-requires
read_parents-offered-requires c =
    let file = c.args.policy.now in
    let tree = c.args.tree.now in
    let same = c.read_policy-read.ensures in
    let ok = read_accepted file same c.if-read-ne0.false in
    let table = c.order_table-rows.ensures in
    let none = sym (read_number file same table tree c.tree_refusal-number.ensures) ∙ c.if-number-ne0.false in
    rw same ((bounds file).0, omega (arith, (gives file ok tree none).form.whole))

pub weigh_tree-requires : goal.weigh_tree-requires
weigh_tree-requires c =
    let t = c in
    let file = t.args.policy.now in
    let tree = t.args.tree.now in
    let same = t.read_policy-read.ensures in
    let ok = read_accepted file same t.if-read-ne0.false in
    let table = t.order_table-rows.ensures in
    let none = sym (read_number file same table tree t.tree_refusal-number.ensures) ∙ t.if-number-ne0.false in
    rw (c.read_parents-offered.ensures, table, same) ((bounds file).0, table_falls _ _, offered_rowed file ok tree none)

pub returns : goal.returns
returns c =
    let t = c in
    let file = t.args.policy.now in
    let tree = t.args.tree.now in
    let same = t.read_policy-read.ensures in
    let ok = read_accepted file same t.if-read-ne0.false in
    let table = t.order_table-rows.ensures in
    let none = sym (read_number file same table tree t.tree_refusal-number.ensures) ∙ t.if-number-ne0.false in
    c.weigh_tree.ensures
    ∙ rw (c.read_parents-offered.ensures, read_order file same table, same) (read_weighed file ok tree none)
