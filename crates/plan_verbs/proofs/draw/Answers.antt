-- `plan_verbs::draw` meets its contract: the buffer has room for the drawing.
use mathlib.Core.Path.{sym}
use native.Mathlib.Omega.{arith}
use lib.Seq.{length-take-le}
use Rattle.buffers.proofs.Unless.{unless_within}
use Rattle.policy_file.specs.Whole.{policy_refusal}
use Rattle.plan_texts.proofs.Lengths.{dot_suffices}
use Rattle.plan_texts.specs.DrawingAnswer.{drawing_written, drawing_after}
use Rattle.plan_texts.specs.Drawing.{dot_text}
use Rattle.plan_verbs.proofs.Refusals.{written_ends}
use Rattle.plan_verbs.proofs.draw.Goals as goal

pub slice_bounds-out-end : goal.slice_bounds-out-end
unfolding drawing_written drawing_after
slice_bounds-out-end c = let t = c.plan_dot-drawn in
    unless_within _ _ _ t.result _ t.ensures.0 t.ensures.1

pub slice_bounds-ended_with-end : goal.slice_bounds-ended_with-end
unfolding drawing_written drawing_after
slice_bounds-ended_with-end c = let t = c.plan_dot-drawn in
    sym (length-take-le t.result.length t.new.out (unless_within _ _ _ t.result _ t.ensures.0 t.ensures.1))

pub returns : goal.returns
unfolding drawing_written drawing_after
returns c =
    let t = c in
    let file = c.in-Some.policy.now in
    let r = c.ended_with in
    rw c.in-Some.is (r.ensures.0, written_ends (policy_refusal file) (dot_text file) _ (omega (arith, dot_suffices file)) t.plan_dot-drawn.ensures.0 t.plan_dot-drawn.ensures.1 r.result r.ensures.1)
