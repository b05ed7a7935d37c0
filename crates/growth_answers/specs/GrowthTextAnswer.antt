-- What `growth_text` answers and leaves in the lent buffer, and what `yendlowa growth` prints.
use Rattle.std.specs.Prelude.{ℕ, List}
use Rattle.buffers.specs.Handed.{written_unless, buffer_unless}
use Rattle.buffers.specs.declared.Written.{Written}
use Rattle.decimals.specs.Worded.{printed_unless}
use Rattle.policy_file.specs.Whole.{policy_refusal}
use Rattle.growth_answers.specs.GrowthListing.{growth_text}

-- the text is handed out unless the policy is refused: "A refusal of the policy comes before any other"
unfoldable pub growth_written : List ℕ → (room : ℕ) → Written
growth_written file room = written_unless (policy_refusal file) (growth_text file) room

unfoldable pub growth_after : List ℕ → List ℕ → List ℕ
growth_after file out = buffer_unless (policy_refusal file) (growth_text file) out

-- what the program prints for a policy file; for a refused one the line that `plan` prints
unfoldable pub printed_growth : List ℕ → List ℕ
printed_growth file = printed_unless (policy_refusal file) (growth_text file)
