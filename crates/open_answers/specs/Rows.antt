-- The answers of `open` in words (02, Ask 2): the envelope's own refusals, 22, 20, 16, 23. Each holds only when it is reached: the rows before it have
-- passed.
use Rattle.std.specs.Prelude.{ℕ, ◌≤◌, ◌<◌, List, ◌≢◌, ◌≡◌}
use Rattle.envelope_file.specs.Derive.{derived_of}
use Rattle.envelope_file.specs.Rows.{NotIn}
use Rattle.envelope_file.specs.Whole.{envelope_refusal, records_of, AcceptedEnvelope}
use Rattle.sealed_file.specs.Rows.{NotSealed, Sealed}
use Rattle.sealed_file.specs.Sealed.{name_in, text_length, tag_in, tag_for}
use Rattle.open_answers.specs.Open.{key_for}

-- the envelope and the file are read, and the label that the file is sealed for is in the envelope
pub record Opens (envelope file : List ℕ) : Type 0 where
  pub accepted : AcceptedEnvelope envelope
  pub sealed : Sealed file
  pub named : (derived_of envelope (name_in file)).refusal ≡ 0

-- the answers for a buffer of `room` bytes, by their numbers
pub data OpenAnswered (envelope file : List ℕ) (room : ℕ) : ℕ → Type 0 where
  envelopes : 0 < envelope_refusal envelope → OpenAnswered envelope file room (envelope_refusal envelope)
  row_22 : AcceptedEnvelope envelope → NotSealed file → OpenAnswered envelope file room 22
  row_20 : AcceptedEnvelope envelope → Sealed file → NotIn envelope (records_of envelope) (name_in file) → OpenAnswered envelope file room 20
  row_16 : Opens envelope file → room < text_length file → OpenAnswered envelope file room 16
  row_23 : Opens envelope file → text_length file ≤ room → tag_in file ≢ tag_for (key_for envelope file) file → OpenAnswered envelope file room 23
  opened : Opens envelope file → text_length file ≤ room → tag_in file ≡ tag_for (key_for envelope file) file → OpenAnswered envelope file room 0
