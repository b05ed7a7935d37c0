-- What `plan_text` answers and leaves in the lent buffer.
use Rattle.std.specs.Prelude.{ℕ, List}
use Rattle.buffers.specs.Handed.{written_unless, buffer_unless}
use Rattle.buffers.specs.declared.Written.{Written}
use Rattle.policy_file.specs.Whole.{policy_refusal}
use Rattle.plan_texts.specs.Listing.{plan_text}

-- the text is handed out unless the policy is refused: "A refusal of the policy comes before any other"
unfoldable pub text_written : List ℕ → (room : ℕ) → Written
text_written file room = written_unless (policy_refusal file) (plan_text file) room

unfoldable pub text_after : List ℕ → List ℕ → List ℕ
text_after file out = buffer_unless (policy_refusal file) (plan_text file) out
