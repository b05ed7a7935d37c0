-- Demand 1 for the plan's text and its drawing, which are written into a lent buffer: "A refused one yields zeros beside that number and changes
-- nothing in the memory lent with it."
use Rattle.std.specs.Prelude.{ℕ, ◌≤◌, ◌<◌, List, ◌++◌, ◌↔◌, ◌≡◌, length, drop}
use Rattle.buffers.specs.Handed.{wrote, refused_written}
use Rattle.buffers.specs.declared.Written.{Written}
use Rattle.plan_texts.specs.DrawingAnswer.{drawing_written, drawing_after}
use Rattle.plan_texts.specs.Drawing.{dot_text}
use Rattle.policy_file.specs.Whole.{policy_refusal}
use Rattle.plan_texts.specs.TextAnswer.{text_written, text_after}
use Rattle.plan_texts.specs.Listing.{plan_text}

-- bytes made of files that are refused under `refusal`, or under none, are asked for with the buffer `out`: what is answered, and what the buffer holds
-- after the call
pub record OfWritten (refusal : ℕ) (bytes : List ℕ) (answer : Written) (out after : List ℕ) : Type 0 where
  -- 01: "A refusal of the policy comes before any other in an operation that takes one, .. and only then those about .. buffers"
  pub files_first : 0 < refusal → answer.refusal ≡ refusal
  -- 16 for a buffer that is shorter than the bytes; with room they are written from its start, and no byte after them changes
  pub short : refusal ≡ 0 → (answer.refusal ≡ 16) ↔ (length out < length bytes)
  pub given : refusal ≡ 0 → length bytes ≤ length out → answer ≡ wrote (length bytes)
  pub left : refusal ≡ 0 → length bytes ≤ length out → after ≡ bytes ++ drop (length bytes) out
  -- "A refused one yields zeros beside that number and changes nothing in the memory lent with it."
  pub zeros : 0 < answer.refusal → answer ≡ refused_written answer.refusal
  pub unchanged : 0 < answer.refusal → after ≡ out

-- `plan_text` and `plan_dot`
pub record Demand1OfTexts (policy out : List ℕ) : Type 0 where
  pub text : OfWritten (policy_refusal policy) (plan_text policy) (text_written policy (length out)) out (text_after policy out)
  pub drawing : OfWritten (policy_refusal policy) (dot_text policy) (drawing_written policy (length out)) out (drawing_after policy out)
