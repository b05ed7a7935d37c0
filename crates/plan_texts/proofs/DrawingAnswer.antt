-- What `plan_dot` answers and leaves in the lent buffer.
use Prim.Native.Nat.{ℕ, ◌<◌}
use mathlib.Core.List.{List}
use mathlib.Core.Path.{◌≡◌}
use lib.ListN.{length}
use Rattle.buffers.proofs.Unless.{answer_refused, answer_handed}
use Rattle.buffers.specs.Handed.{refused_written, handed, handed_into}
use Rattle.buffers.specs.Put.{Put}
use Rattle.buffers.specs.declared.Written.{Written}
use Rattle.plan_answers.specs.Planned.{plan_of}
use Rattle.plan_answers.specs.declared.Plan.{Plan}
use Rattle.plan_texts.specs.DrawingAnswer.{drawing_written, drawing_after}
use Rattle.plan_texts.specs.Drawing.{drawing, dot_text}
use Rattle.plan_texts.proofs.Plans.{plan_number}

-- the drawing stands at the front of the buffer
module _ (file : List ℕ) {d e : List ℕ} {plan : Plan} {r : ℕ} (same : plan ≡ plan_of file) (put : Put d e 0 (drawing file plan) r) where
  pub dot_put : Put d e 0 (dot_text file) r
  unfolding dot_text
  dot_put = rw same at put

-- from the refusal of the plan: the answer with it, and without one what was handed out
module _ (file out : List ℕ) {plan : Plan} (same : plan ≡ plan_of file) {w : Written} where
  pub dot_refused : 0 < plan.refusal → w ≡ refused_written plan.refusal → (w ≡ drawing_written file (length out)) × (out ≡ drawing_after file out)
  unfolding drawing_written drawing_after
  dot_refused = answer_refused (plan_number file same) (dot_text file) out

  pub dot_handed : plan.refusal ≡ 0 → {after : List ℕ} → w ≡ handed (dot_text file) (length out) → after ≡ handed_into (dot_text file) out
      → (w ≡ drawing_written file (length out)) × (after ≡ drawing_after file out)
  unfolding drawing_written drawing_after
  dot_handed = answer_handed (plan_number file same) (dot_text file) out
