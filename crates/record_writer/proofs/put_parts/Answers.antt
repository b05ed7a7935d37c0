-- `record_writer::put_parts` meets its contract.
use Rattle.record_writer.proofs.Parts.{put_three}
use Rattle.record_writer.proofs.put_parts.Goals as goal

pub returns : goal.returns
returns c = put_three c.put_bytes-behind.ensures c.put_bytes-place.ensures c.put_bytes.ensures
