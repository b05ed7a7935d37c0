-- `dot::put_ending` meets its contract.
use Rattle.buffers.proofs.Writes.{put_next}
use Rattle.plan_texts.specs.Drawing.{ending}
use Rattle.dot.proofs.put_ending.Goals as goal

pub returns : goal.returns
unfolding ending
returns c = put_next c.put_field-behind.ensures c.put_bytes.ensures
