-- What `plan` prints for a policy, a refused one too (01, "The plan program and its text"), in ASCII.
use Rattle.std.specs.Prelude.{ℕ, List}
use Rattle.policy_file.specs.Whole.{policy_refusal}
use Rattle.decimals.specs.Worded.{printed_unless}
use Rattle.plan_texts.specs.Listing.{plan_text}

-- "A refused policy prints `REFUSED`, a space and the number. Otherwise there is one line a label"
unfoldable pub printed : List ℕ → List ℕ
printed file = printed_unless (policy_refusal file) (plan_text file)
