-- `planner::plan_order` meets its contract: a refused policy's plan is zeros and leaves the rows; else the plan of what is read is that of the
-- file, and the table is the file's order.
use Prim.Native.Nat.{◌<◌}
use mathlib.Core.Path.{sym, ap, ◌∙◌}
use native.Mathlib.Omega.{arith}
use Rattle.order.proofs.Exact.{table_falls}
use Rattle.policy_file.specs.Whole.{policy_refusal}
use Rattle.policy_file.specs.declared.Policy.{Policy}
use Rattle.plan_answers.proofs.LentRows.{rows_refused, rows_accepted}
use Rattle.plan_answers.proofs.PlanAnswer.{plan_refused}
use Rattle.plan_answers.proofs.WorkedTables.{read_few, read_accepted, read_order, read_plan}
use Rattle.plan_answers.specs.Planned.{refused_plan}
use Rattle.planner.proofs.plan_order.Goals as goal

pub returns-then-read-ne0 : goal.returns-then-read-ne0
returns-then-read-ne0 c =
    let r = c in
    let a = r.args in
    let file = a.policy.now in
    let number = ap (λ (p : Policy). p.refusal) r.read_policy-read.ensures in
    let some : 0 < policy_refusal file = omega (arith, number, c.if-read-ne0.true) in
    (c.refused_plan.ensures ∙ ap refused_plan number ∙ sym (plan_refused file some), sym (rows_refused file some a.rows.now))

pub plan_labels-requires : goal.plan_labels-requires
plan_labels-requires c =
    let o = c in
    let r = o in
    (read_few r.args.policy.now r.read_policy-read.ensures, rw o.order_table-table.ensures (table_falls _ _))

pub returns : goal.returns
returns c =
    let o = c in
    let i = o in
    let r = i in
    let a = r.args in
    let file = a.policy.now in
    let same = r.read_policy-read.ensures in
    let built = read_order file same o.order_table-table.ensures in
    let ok = read_accepted file same i.if-read-ne0.false in
    (c.plan_labels.ensures ∙ rw (built, same) (read_plan file), built ∙ sym (rows_accepted file ok a.rows.now))
