-- `line_parts::put_between` meets its contract.
use Rattle.buffers.proofs.Writes.{put_next}
use Rattle.plan_texts.specs.Drawing.{between}
use Rattle.line_parts.proofs.put_between.Goals as goal

pub returns : goal.returns
unfolding between
returns c =
    put_next (put_next (put_next c.put_bytes-open.ensures c.put_name-behind.ensures) c.put_bytes-other.ensures) c.put_name.ensures
