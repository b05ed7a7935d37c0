-- What an operation that hands bytes out into a lent buffer answers, and what it leaves there.
use Rattle.std.specs.Prelude.{ℕ, cond, List, eqb, leb, length, replicate}
use Rattle.lists.specs.Buffer.{pasted}
use Rattle.buffers.specs.declared.Written.{Written}

-- so many bytes were written
abbrev pub wrote : (size : ℕ) → Written
wrote size = record { refusal = 0; zeros = replicate 7 0; length = size }

-- "A refused one yields zeros beside that number": nothing was written
abbrev pub refused_written : ℕ → Written
refused_written number = record { refusal = number; zeros = replicate 7 0; length = 0 }

-- s is handed out into a buffer: the answer is its length if the buffer has room for it, else 16, "buffer shorter", and no length
unfoldable pub handed : List ℕ → (room : ℕ) → Written
handed s room = cond (leb (length s) room) (wrote (length s)) (refused_written 16)

-- s from the buffer's start and no byte after it changed; nothing at all if there is no room
unfoldable pub handed_into : List ℕ → List ℕ → List ℕ
handed_into s out = cond (leb (length s) (length out)) (pasted out 0 s) out

-- s is handed out unless the files and names that it is made of are refused under a number above 0, "and only then those about .. buffers"
unfoldable pub written_unless : (refusal : ℕ) → List ℕ → (room : ℕ) → Written
written_unless refusal s room = cond (eqb refusal 0) (handed s room) (refused_written refusal)

unfoldable pub buffer_unless : (refusal : ℕ) → List ℕ → List ℕ → List ℕ
buffer_unless refusal s out = cond (eqb refusal 0) (handed_into s out) out
