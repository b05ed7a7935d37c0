-- `text::plan_text` meets its contract: with a refusal of the policy and without one.
use Rattle.std.proofs.Common.{arith, length}
use Rattle.buffers.proofs.Handed.{front_handed, front_left}
use Rattle.plan_texts.proofs.Plans.{plan_printable, text_suffices}
use Rattle.plan_texts.proofs.TextAnswer.{text_put, text_refused, text_handed}
use Rattle.plan_texts.specs.Listing.{plan_text}
use Rattle.text.proofs.plan_text.Goals as goal

pub returns-then-plan-ne0 : goal.returns-then-plan-ne0
returns-then-plan-ne0 c =
    let a = c.args in
    text_refused a.policy.now a.out.now c.plan_policy-plan.ensures (omega (arith, c.if-plan-ne0.true)) c.refuse.ensures

pub invariant_of-printed : goal.invariant_of-printed
invariant_of-printed c = record { printable = rw c.plan_policy-plan.ensures (plan_printable c.args.policy.now) }

pub write_text-length-requires : goal.write_text-length-requires
unfolding plan_text
write_text-length-requires c = rw c.plan_policy-plan.ensures (omega (arith, text_suffices c.args.policy.now))

pub returns : goal.returns
returns c =
    let file = c.args.policy.now in
    let out = c.args.out.now in
    let put = text_put file c.plan_policy-plan.ensures c.write_text-length.ensures in
    text_handed file out c.plan_policy-plan.ensures (omega (arith, c.if-plan-ne0.false))
    (front_handed put (length out) c.hand_out.ensures.0) (front_left put out c.hand_out.ensures.1)
