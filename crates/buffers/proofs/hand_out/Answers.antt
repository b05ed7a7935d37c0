-- `buffers::hand_out` meets its contract: with room and with none.
use mathlib.Core.Path.{◌∙◌}
use native.Mathlib.Omega.{arith}
use Rattle.buffers.proofs.Handed.{handed_none, handed_room, left_none, left_room}
use Rattle.buffers.proofs.hand_out.Goals as goal

pub returns-then-out-bytes : goal.returns-then-out-bytes
returns-then-out-bytes c = (c.refuse.ensures ∙ handed_none _ _ (omega arith), left_none _ _ (omega arith))

pub returns : goal.returns
returns c = (c.wrote.ensures ∙ handed_room _ _ (omega arith), left_room _ _ (omega arith) c.put_bytes.ensures.written)
