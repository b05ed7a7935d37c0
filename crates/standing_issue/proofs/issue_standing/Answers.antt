-- `standing_issue::issue_standing` meets its contract: each refusal in its turn, with the buffer as it was, then the envelope of the label asked for.
use mathlib.Core.Bool.{false}
use mathlib.Core.Path.{refl, sym, ap, ◌∙◌}
use native.Mathlib.Omega.{arith}
use lib.ListN.{length, replicate}
use Rattle.buffers.specs.Handed.{refused_written}
use Rattle.issuer_answers.proofs.By.{by_policy, by_asked_13, number_refuses, issued_at, buffer_at}
use Rattle.roster_answers.proofs.Issue.{standing_whole}
use Rattle.roster_answers.specs.Issue.{standing_refusal, standing_issued, standing_after}
use Rattle.issuer_keys.proofs.Tables.{plan_number, plan_within, plan_accepted, plan_hung, asked_told, told_below}
use Rattle.issuer.proofs.Tables.{plan_rows, envelope_made}
use Rattle.standing_issue.proofs.issue_standing.Goals as goal

pub returns-then-planned-ne0 : goal.returns-then-planned-ne0
unfolding standing_issued standing_after
returns-then-planned-ne0 c =
    let p = c in
    let a = p.args in
    let out = a.envelope.now in
    let number = plan_number a.policy.now p.plan_order-planned.ensures.0 in
    let refused = by_policy a.policy.now a.name.now a.account a.root.now (standing_refusal a.standing a.root.now) (omega arith) in
    (c.refuse.ensures ∙ ap refused_written number ∙ sym (refused.issues (length out)), sym (refused.leaves out))

pub returns-then-number-ne0 : goal.returns-then-number-ne0
unfolding standing_issued standing_after
returns-then-number-ne0 c =
    let n = c in
    let l = n in
    let f = l in
    let p = f in
    let a = p.args in
    let out = a.envelope.now in
    let same = p.plan_order-planned.ensures.0 in
    let ok = plan_accepted a.policy.now same f.if-planned-ne0.false in
    let at = asked_told a.policy.now same a.name.now c.in-Some.ensures refl in
    let refused = number_refuses a.policy.now a.name.now a.account a.root.now (standing_refusal a.standing a.root.now) ok at n.standing_refusal-number.ensures (omega arith) in
    (c.refuse-then-number-ne0.ensures ∙ sym (refused.issues (length out)), sym (refused.leaves out))

pub returns-else-number-ne0 : goal.returns-else-number-ne0
unfolding standing_issued standing_after
returns-else-number-ne0 c =
    let i = c in
    let s = i in
    let n = s in
    let l = n in
    let f = l in
    let p = f in
    let a = p.args in
    let out = a.envelope.now in
    let same = p.plan_order-planned.ensures.0 in
    let ok = plan_accepted a.policy.now same f.if-planned-ne0.false in
    let at = asked_told a.policy.now same a.name.now c.in-Some.ensures refl in
    let number = n.standing_refusal-number.ensures in
    let none = s.if-number-ne0.false in
    let whole = standing_whole a.standing a.root.now c.in-Some.l number none in
    let made = envelope_made a.policy.now same a.root.now whole s.read_secret-secret.ensures c.in-Some.l a.account (p.plan_order-planned.ensures.1 ∙ plan_rows a.policy.now same f.if-planned-ne0.false (replicate 64 (replicate 64 false))) in (
      issued_at a.policy.now a.name.now a.account a.root.now (standing_refusal a.standing a.root.now) ok at number none made (length out) i.issue_label.ensures.0,
      buffer_at a.policy.now a.name.now a.account a.root.now (standing_refusal a.standing a.root.now) ok at number none made out i.issue_label.ensures.1,
    )

pub returns-in-None : goal.returns-in-None
unfolding standing_issued standing_after
returns-in-None c =
    let f = c in
    let p = f in
    let a = p.args in
    let out = a.envelope.now in
    let same = p.plan_order-planned.ensures.0 in
    let ok = plan_accepted a.policy.now same f.if-planned-ne0.false in
    let none = asked_told a.policy.now same a.name.now c.in-None.ensures refl in
    let refused = by_asked_13 a.policy.now a.name.now a.account a.root.now (standing_refusal a.standing a.root.now) ok none in
    (c.refuse-in-None.ensures ∙ sym (refused.issues (length out)), sym (refused.leaves out))

pub asked_label-requires : goal.asked_label-requires
asked_label-requires c =
    let p = c in
    plan_within p.args.policy.now p.plan_order-planned.ensures.0

pub issue_label-requires : goal.issue_label-requires
issue_label-requires c =
    let l = c in
    let f = l in
    let p = f in
    let a = p.args in
    let same = p.plan_order-planned.ensures.0 in
    (plan_hung a.policy.now same f.if-planned-ne0.false, told_below a.policy.now same a.name.now c.in-Some.ensures refl)
