-- `dot::plan_dot` meets its contract: with a refusal of the policy and without one.
use Rattle.std.proofs.Common.{arith, length}
use Rattle.buffers.proofs.Handed.{front_handed, front_left}
use Rattle.plan_texts.proofs.DrawingAnswer.{dot_put, dot_refused, dot_handed}
use Rattle.plan_texts.proofs.Lengths.{dot_suffices}
use Rattle.plan_texts.proofs.Plans.{plan_printable}
use Rattle.plan_texts.specs.Drawing.{dot_text}
use Rattle.dot.proofs.plan_dot.Goals as goal

pub returns-then-plan-ne0 : goal.returns-then-plan-ne0
returns-then-plan-ne0 c =
    let a = c.args in
    dot_refused a.policy.now a.out.now c.plan_policy-plan.ensures (omega (arith, c.if-plan-ne0.true)) c.refuse.ensures

pub invariant_of-printed : goal.invariant_of-printed
invariant_of-printed c = record { printable = rw c.plan_policy-plan.ensures (plan_printable c.args.policy.now) }

pub write_dot-length-requires : goal.write_dot-length-requires
unfolding dot_text
write_dot-length-requires c = rw c.plan_policy-plan.ensures (omega (arith, dot_suffices c.args.policy.now))

pub returns : goal.returns
returns c =
    let file = c.args.policy.now in
    let out = c.args.out.now in
    let put = dot_put file c.plan_policy-plan.ensures c.write_dot-length.ensures in
    dot_handed file out c.plan_policy-plan.ensures (omega (arith, c.if-plan-ne0.false))
    (front_handed put (length out) c.hand_out.ensures.0) (front_left put out c.hand_out.ensures.1)
