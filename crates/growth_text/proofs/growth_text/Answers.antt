-- `growth_text::growth_text` meets its contract: with a refusal of the policy and without one.
use Rattle.std.proofs.Common.{ℕ, ◌≡◌, ◌+◌, ◌≤◌, List, length, arith}
use Rattle.buffers.proofs.Handed.{front_handed, front_left}
use Rattle.growth_answers.proofs.GrowthParts.{growth_fits}
use Rattle.growth_answers.proofs.GrowthTextAnswer.{growth_put, growth_text_refused, growth_text_handed}
use Rattle.growth_answers.proofs.GrowthWidths.{growth_suffices}
use Rattle.growth_answers.specs.GrowthListing.{growth_lines, growth_text}
use Rattle.growth_answers.specs.Growing.{growth_of}
use Rattle.growth_answers.specs.declared.Growth.{Growth}
use Rattle.growth_text.proofs.growth_text.Goals as goal

pub returns-then-growth-ne0 : goal.returns-then-growth-ne0
returns-then-growth-ne0 c =
    let a = c.args in
    growth_text_refused a.policy.now a.out.now c.growth_policy-growth.ensures (omega (arith, c.if-growth-ne0.true)) c.refuse.ensures

pub invariant_of-lines : goal.invariant_of-lines
invariant_of-lines c =
    let fits = growth_fits c.args.policy.now c.growth_policy-growth.ensures in
    record { few = fits.0; within = fits.1 }

-- 1,024 bytes have room for the text
fits : (file : List ℕ) {growth : Growth} → growth ≡ growth_of file → 0 + length (growth_lines file growth growth.labels) ≤ 1024
unfolding growth_text
fits file same = rw same (omega (arith, growth_suffices file))

pub put_lines-length-requires : goal.put_lines-length-requires
put_lines-length-requires c = fits c.args.policy.now c.growth_policy-growth.ensures

pub returns : goal.returns
returns c =
    let file = c.args.policy.now in
    let out = c.args.out.now in
    let put = growth_put file c.growth_policy-growth.ensures c.put_lines-length.ensures in
    growth_text_handed file out c.growth_policy-growth.ensures (omega (arith, c.if-growth-ne0.false))
    (front_handed put (length out) c.hand_out.ensures.0) (front_left put out c.hand_out.ensures.1)
