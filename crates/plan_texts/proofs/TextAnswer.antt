-- What `plan_text` answers and leaves in the lent buffer.
use Prim.Native.Nat.{ℕ, ◌<◌}
use mathlib.Core.List.{List}
use mathlib.Core.Path.{◌≡◌}
use lib.ListN.{length}
use Rattle.buffers.proofs.Unless.{answer_refused, answer_handed}
use Rattle.buffers.specs.Handed.{refused_written, handed, handed_into}
use Rattle.buffers.specs.Put.{Put}
use Rattle.buffers.specs.declared.Written.{Written}
use Rattle.plan_answers.specs.Planned.{plan_of}
use Rattle.plan_answers.specs.declared.Plan.{Plan}
use Rattle.plan_texts.specs.TextAnswer.{text_written, text_after}
use Rattle.plan_texts.specs.Listing.{listing, plan_text}
use Rattle.plan_texts.proofs.Plans.{plan_number}

-- the text stands at the front of the buffer
module _ (file : List ℕ) {d e : List ℕ} {plan : Plan} {r : ℕ} (same : plan ≡ plan_of file) (put : Put d e 0 (listing file plan) r) where
  pub text_put : Put d e 0 (plan_text file) r
  unfolding plan_text
  text_put = rw same at put

-- from the refusal of the plan: the answer with it, and without one what was handed out
module _ (file out : List ℕ) {plan : Plan} (same : plan ≡ plan_of file) {w : Written} where
  pub text_refused : 0 < plan.refusal → w ≡ refused_written plan.refusal → (w ≡ text_written file (length out)) × (out ≡ text_after file out)
  unfolding text_written text_after
  text_refused = answer_refused (plan_number file same) (plan_text file) out

  pub text_handed : plan.refusal ≡ 0 → {after : List ℕ} → w ≡ handed (plan_text file) (length out) → after ≡ handed_into (plan_text file) out
      → (w ≡ text_written file (length out)) × (after ≡ text_after file out)
  unfolding text_written text_after
  text_handed = answer_handed (plan_number file same) (plan_text file) out
