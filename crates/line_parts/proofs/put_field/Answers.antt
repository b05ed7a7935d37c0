-- `line_parts::put_field` meets its contract.
use Rattle.buffers.proofs.Writes.{put_next}
use Rattle.plan_texts.specs.Drawing.{field}
use Rattle.line_parts.proofs.put_field.Goals as goal

pub returns : goal.returns
unfolding field
returns c = put_next c.put_bytes-behind.ensures c.put_number.ensures
