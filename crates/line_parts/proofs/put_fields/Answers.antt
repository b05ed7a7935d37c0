-- `line_parts::put_fields` meets its contract.
use Rattle.buffers.proofs.Writes.{put_next}
use Rattle.plan_texts.specs.Drawing.{fields}
use Rattle.line_parts.proofs.put_fields.Goals as goal

pub returns : goal.returns
unfolding fields
returns c = put_next (put_next c.put_field-second.ensures c.put_field-third.ensures) c.put_field.ensures
