-- `plan_verbs::plan` meets its contract: the buffer has room for the plan.
use mathlib.Core.Path.{sym}
use native.Mathlib.Omega.{arith}
use lib.Seq.{length-take-le}
use Rattle.buffers.proofs.Unless.{unless_within}
use Rattle.policy_file.specs.Whole.{policy_refusal}
use Rattle.plan_texts.proofs.Plans.{text_suffices}
use Rattle.plan_texts.specs.TextAnswer.{text_written, text_after}
use Rattle.plan_texts.specs.Listing.{plan_text}
use Rattle.plan_verbs.proofs.Refusals.{written_ends}
use Rattle.plan_verbs.proofs.plan.Goals as goal

pub slice_bounds-out-end : goal.slice_bounds-out-end
unfolding text_written text_after
slice_bounds-out-end c = let t = c.plan_text-written in
    unless_within _ _ _ t.result _ t.ensures.0 t.ensures.1

pub slice_bounds-ended_with-end : goal.slice_bounds-ended_with-end
unfolding text_written text_after
slice_bounds-ended_with-end c = let t = c.plan_text-written in
    sym (length-take-le t.result.length t.new.out (unless_within _ _ _ t.result _ t.ensures.0 t.ensures.1))

pub returns : goal.returns
unfolding text_written text_after
returns c =
    let t = c in
    let file = c.in-Some.file.now in
    let r = c.ended_with in
    rw c.in-Some.is (r.ensures.0, written_ends (policy_refusal file) (plan_text file) _ (omega (arith, text_suffices file)) t.plan_text-written.ensures.0 t.plan_text-written.ensures.1 r.result r.ensures.1)
