-- What `open` answers for an envelope and a sealed file, and what it leaves in the lent buffer (02, Ask 2): "Opening takes an envelope and a sealed
-- file."
use Rattle.std.specs.Prelude.{ℕ, cond, List, eqb, leb, length}
use Rattle.buffers.specs.Handed.{written_unless, buffer_unless}
use Rattle.buffers.specs.declared.Written.{Written}
use Rattle.envelope_file.specs.Derive.{derived_of}
use Rattle.envelope_file.specs.Whole.{envelope_refusal}
use Rattle.sealed_file.specs.Sealed.{name_in, text_length, sealed_refusal, tag_holds, text_in}

-- the key of the label that the file is sealed for, from the envelope alone
unfoldable pub key_for : (envelope file : List ℕ) → List ℕ
key_for envelope file = (derived_of envelope (name_in file)).key

-- the refusals before the buffer's: the envelope's own; 22, "when opening, after the envelope's own refusals and before 20"; 20
unfoldable pub unopened : (envelope file : List ℕ) → ℕ
unopened envelope file =
    cond (eqb (envelope_refusal envelope) 0)
    (cond (eqb (sealed_refusal file) 0) (derived_of envelope (name_in file)).refusal (sealed_refusal file))
    (envelope_refusal envelope)

-- "A short buffer is 16, .. when opening, after 20 but before 23"; "23: tag differs; after 20"
unfoldable pub unread : (key file : List ℕ) (room : ℕ) → ℕ
unread key file room =
    cond (leb (text_length file) room)
    (cond (tag_holds key file) 0 23)
    16

-- the number that an opening is refused under, 0 when it is not
unfoldable pub open_refusal : (envelope file : List ℕ) (room : ℕ) → ℕ
open_refusal envelope file room =
    cond (eqb (unopened envelope file) 0) (unread (key_for envelope file) file room) (unopened envelope file)

-- what `open` answers, for a buffer of `room` bytes: the length of the text
unfoldable pub opened_of : (envelope file : List ℕ) (room : ℕ) → Written
opened_of envelope file room = written_unless (open_refusal envelope file room) (text_in (key_for envelope file) file) room

-- what it leaves: "whatever is written into a buffer is written as an issue writes its envelope", and "a failed opening writes no byte of text"
unfoldable pub text_after : (envelope file out : List ℕ) → List ℕ
text_after envelope file out = buffer_unless (open_refusal envelope file (length out)) (text_in (key_for envelope file) file) out
