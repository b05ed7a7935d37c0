-- `plan_verbs::growth` meets its contract: the buffer has room for the text.
use mathlib.Core.Path.{sym}
use native.Mathlib.Omega.{arith}
use lib.Seq.{length-take-le}
use Rattle.buffers.proofs.Unless.{unless_within}
use Rattle.policy_file.specs.Whole.{policy_refusal}
use Rattle.growth_answers.proofs.GrowthWidths.{growth_suffices}
use Rattle.growth_answers.specs.GrowthListing.{growth_text}
use Rattle.growth_answers.specs.GrowthTextAnswer.{growth_written, growth_after}
use Rattle.plan_verbs.proofs.Refusals.{written_ends}
use Rattle.plan_verbs.proofs.growth.Goals as goal

pub slice_bounds-out-end : goal.slice_bounds-out-end
unfolding growth_written growth_after
slice_bounds-out-end c = let t = c.growth_text-grown in
    unless_within _ _ _ t.result _ t.ensures.0 t.ensures.1

pub slice_bounds-ended_with-end : goal.slice_bounds-ended_with-end
unfolding growth_written growth_after
slice_bounds-ended_with-end c = let t = c.growth_text-grown in
    sym (length-take-le t.result.length t.new.out (unless_within _ _ _ t.result _ t.ensures.0 t.ensures.1))

pub returns : goal.returns
unfolding growth_written growth_after
returns c =
    let t = c in
    let file = c.in-Some.bytes.now in
    let r = c.ended_with in
    rw c.in-Some.is (r.ensures.0, written_ends (policy_refusal file) (growth_text file) _ (omega (arith, growth_suffices file)) t.growth_text-grown.ensures.0 t.growth_text-grown.ensures.1 r.result r.ensures.1)
