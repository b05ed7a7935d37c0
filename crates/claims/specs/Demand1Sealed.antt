-- Demand 1 for sealed files: 02, Ask 2, "From here on demand 1 covers every file form added, and whatever is written into a buffer is written as an issue
-- writes its envelope." The rows stand in words in the specs/Rows.antt of the crates sealed_file, seal_answers and open_answers.
use Rattle.std.specs.Prelude.{ℕ, ◌≤◌, ◌<◌, List, ◌++◌, ◌↔◌, ◌≢◌, ◌≡◌, length, drop}
use Rattle.buffers.specs.Handed.{wrote, refused_written}
use Rattle.envelope_file.specs.Whole.{AcceptedEnvelope}
use Rattle.open_answers.specs.Open.{key_for, opened_of, text_after}
use Rattle.open_answers.specs.Rows.{Opens, OpenAnswered}
use Rattle.seal_answers.specs.Rows.{SealAnswered}
use Rattle.seal_answers.specs.Seal.{sealed_of, file_after}
use Rattle.sealed_file.specs.Rows.{NotSealed}
use Rattle.sealed_file.specs.Sealed.{text_length, tag_in, tag_for, text_in}

-- `seal`: the policy's refusals, 13, 15, 22, 16
pub record Demand1OfSeal (policy name root nonce text out : List ℕ) : Type 0 where
  -- the number answered is that of a row that holds, and a row that holds is answered by its number
  pub answered : SealAnswered policy name root nonce text (length out) (sealed_of policy name root nonce text (length out)).refusal
  pub only : (n : ℕ) → SealAnswered policy name root nonce text (length out) n → (sealed_of policy name root nonce text (length out)).refusal ≡ n
  -- "A refused one yields zeros beside that number and changes nothing in the memory lent with it."
  pub zeros : 0 < (sealed_of policy name root nonce text (length out)).refusal
      → sealed_of policy name root nonce text (length out) ≡ refused_written (sealed_of policy name root nonce text (length out)).refusal
  pub unchanged : 0 < (sealed_of policy name root nonce text (length out)).refusal → file_after policy name root nonce text out ≡ out

-- `open`: the envelope's refusals, 22, 20, 16, 23
pub record Demand1OfOpen (envelope file out : List ℕ) : Type 0 where
  pub answered : OpenAnswered envelope file (length out) (opened_of envelope file (length out)).refusal
  pub only : (n : ℕ) → OpenAnswered envelope file (length out) n → (opened_of envelope file (length out)).refusal ≡ n
  pub zeros : 0 < (opened_of envelope file (length out)).refusal
      → opened_of envelope file (length out) ≡ refused_written (opened_of envelope file (length out)).refusal
  -- a file whose tag is right is opened: "whatever is written into a buffer is written as an issue writes its envelope"
  pub opened : Opens envelope file → tag_in file ≡ tag_for (key_for envelope file) file → text_length file ≤ length out
      → opened_of envelope file (length out) ≡ wrote (text_length file)
  pub left : Opens envelope file → tag_in file ≡ tag_for (key_for envelope file) file → text_length file ≤ length out
      → text_after envelope file out ≡ text_in (key_for envelope file) file ++ drop (text_length file) out
  -- "a failed opening writes no byte of text"
  pub unchanged : 0 < (opened_of envelope file (length out)).refusal → text_after envelope file out ≡ out
  -- "22: sealed file under 38 or over 32,806 bytes, without `SM`"; "23: tag differs"
  pub not_sealed : AcceptedEnvelope envelope → ((opened_of envelope file (length out)).refusal ≡ 22) ↔ NotSealed file
  pub other_tag : Opens envelope file → text_length file ≤ length out
      → ((opened_of envelope file (length out)).refusal ≡ 23) ↔ (tag_in file ≢ tag_for (key_for envelope file) file)
