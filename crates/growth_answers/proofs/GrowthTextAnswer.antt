-- What `growth_text` answers and leaves in the lent buffer.
use Prim.Native.Nat.{ℕ, ◌<◌}
use mathlib.Core.List.{List}
use mathlib.Core.Path.{◌≡◌}
use lib.ListN.{length}
use Rattle.buffers.proofs.Unless.{answer_refused, answer_handed}
use Rattle.buffers.specs.Handed.{refused_written, handed, handed_into}
use Rattle.buffers.specs.Put.{Put}
use Rattle.buffers.specs.declared.Written.{Written}
use Rattle.growth_answers.proofs.GrowthParts.{growth_number}
use Rattle.growth_answers.specs.Growing.{growth_of}
use Rattle.growth_answers.specs.GrowthListing.{growth_lines, growth_text}
use Rattle.growth_answers.specs.GrowthTextAnswer.{growth_written, growth_after}
use Rattle.growth_answers.specs.declared.Growth.{Growth}

-- the text stands at the front of the buffer
module _ (file : List ℕ) {d e : List ℕ} {growth : Growth} {r : ℕ} (same : growth ≡ growth_of file) (put : Put d e 0 (growth_lines file growth growth.labels) r) where
  pub growth_put : Put d e 0 (growth_text file) r
  unfolding growth_text
  growth_put = rw same at put

-- from the refusal of the answer: the number alone, and without one what was handed out
module _ (file out : List ℕ) {growth : Growth} (same : growth ≡ growth_of file) {w : Written} where
  pub growth_text_refused : 0 < growth.refusal → w ≡ refused_written growth.refusal → (w ≡ growth_written file (length out)) × (out ≡ growth_after file out)
  unfolding growth_written growth_after
  growth_text_refused = answer_refused (growth_number file same) (growth_text file) out

  pub growth_text_handed : growth.refusal ≡ 0 → {after : List ℕ} → w ≡ handed (growth_text file) (length out) → after ≡ handed_into (growth_text file) out
      → (w ≡ growth_written file (length out)) × (after ≡ growth_after file out)
  unfolding growth_written growth_after
  growth_text_handed = answer_handed (growth_number file same) (growth_text file) out
