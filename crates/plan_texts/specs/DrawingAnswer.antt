-- What `plan_dot` answers and leaves in the lent buffer, and what `yendlowa draw` prints.
use Rattle.std.specs.Prelude.{ℕ, List}
use Rattle.buffers.specs.Handed.{written_unless, buffer_unless}
use Rattle.buffers.specs.declared.Written.{Written}
use Rattle.policy_file.specs.Whole.{policy_refusal}
use Rattle.decimals.specs.Worded.{printed_unless}
use Rattle.plan_texts.specs.Drawing.{dot_text}

-- the drawing is handed out unless the policy is refused: "A refusal of the policy comes before any other"
unfoldable pub drawing_written : List ℕ → (room : ℕ) → Written
drawing_written file room = written_unless (policy_refusal file) (dot_text file) room

unfoldable pub drawing_after : List ℕ → List ℕ → List ℕ
drawing_after file out = buffer_unless (policy_refusal file) (dot_text file) out

-- what the program prints for a policy file; for a refused one the line that `plan` prints
unfoldable pub printed_drawing : List ℕ → List ℕ
printed_drawing file = printed_unless (policy_refusal file) (dot_text file)
