-- What `seal` answers, and what it leaves in the lent buffer (02, Ask 2): "Seal .. a text of up to 32,768 bytes with ChaCha20-Poly1305 (RFC 8439) under
-- the label's key."
use Rattle.std.specs.Prelude.{ℕ, cond, List, eqb}
use Rattle.buffers.specs.Handed.{written_unless, buffer_unless}
use Rattle.buffers.specs.declared.Written.{Written}
use Rattle.issuer_answers.specs.Keys.{issuer_key_of}
use Rattle.sealed_file.specs.Sealed.{sealed_file, text_refusal}

-- the refusals before the buffer's: the policy's own, 13 and 15, as `issuer_key` gives them, and 22, "when sealing, after 13 and 15"
unfoldable pub seal_refusal : (policy name root nonce text : List ℕ) → ℕ
seal_refusal policy name root nonce text =
    cond (eqb (issuer_key_of policy name root).refusal 0) (text_refusal nonce text) (issuer_key_of policy name root).refusal

-- the file of a text for the label asked for, under the label's key
unfoldable pub label_sealed : (policy name root nonce text : List ℕ) → List ℕ
label_sealed policy name root nonce text = sealed_file (issuer_key_of policy name root).key name nonce text

-- what `seal` answers, for a buffer of `room` bytes: the length of the file; "A short buffer is 16, after 22"
unfoldable pub sealed_of : (policy name root nonce text : List ℕ) (room : ℕ) → Written
sealed_of policy name root nonce text room = written_unless (seal_refusal policy name root nonce text) (label_sealed policy name root nonce text) room

-- what it leaves: "whatever is written into a buffer is written as an issue writes its envelope"
unfoldable pub file_after : (policy name root nonce text out : List ℕ) → List ℕ
file_after policy name root nonce text out = buffer_unless (seal_refusal policy name root nonce text) (label_sealed policy name root nonce text) out
