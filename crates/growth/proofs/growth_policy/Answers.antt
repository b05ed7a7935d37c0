-- `growth::growth_policy` meets its contract: a refused policy's answer is zeros; else the figures of what is read are those of the file.
use Prim.Native.Nat.{◌<◌}
use mathlib.Core.Path.{sym, ap, ◌∙◌}
use native.Mathlib.Omega.{arith}
use Rattle.growth_answers.proofs.GrowthAnswer.{growth_refused, read_growth, policy_grows, policy_same}
use Rattle.growth_answers.specs.Growing.{refused_growth}
use Rattle.order.proofs.Exact.{table_falls}
use Rattle.plan_answers.proofs.WorkedTables.{read_few, read_accepted, read_order}
use Rattle.policy_file.specs.Whole.{policy_refusal, policy_of}
use Rattle.policy_file.specs.declared.Policy.{Policy}
use Rattle.weights.specs.Tables.{entries}
use Rattle.growth.proofs.growth_policy.Goals as goal

pub returns-then-read-ne0 : goal.returns-then-read-ne0
returns-then-read-ne0 c =
    let r = c in
    let file = r.args.policy.now in
    let number = ap (λ (p : Policy). p.refusal) r.read_policy-read.ensures in
    let some : 0 < policy_refusal file = omega (arith, number, c.if-read-ne0.true) in
    c.refused_growth.ensures ∙ ap refused_growth number ∙ sym (growth_refused file some)

pub growth_labels-requires : goal.growth_labels-requires
growth_labels-requires c =
    let o = c in
    let i = o in
    let r = i in
    let file = r.args.policy.now in
    let same = r.read_policy-read.ensures in
    let ok = read_accepted file same i.if-read-ne0.false in (
      read_few file same,
      rw o.order_table-rows.ensures (table_falls _ _),
      rw (read_order file same o.order_table-rows.ensures, same) (policy_grows file ok (entries (policy_of file).counts)),
      rw (read_order file same o.order_table-rows.ensures, same) (policy_same file ok),
    )

pub returns : goal.returns
returns c =
    let o = c in
    let r = o in
    let file = r.args.policy.now in
    let same = r.read_policy-read.ensures in
    c.growth_labels.ensures ∙ rw (read_order file same o.order_table-rows.ensures, same) (read_growth file)
