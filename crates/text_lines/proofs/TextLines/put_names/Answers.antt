-- `text_lines::TextLines::put_names` meets its contract.
use Rattle.buffers.proofs.Writes.{put_next}
use Rattle.plan_texts.specs.Listing.{names}
use Rattle.text_lines.proofs.TextLines.put_names.Goals as goal

pub returns : goal.returns
unfolding names
returns c = put_next (put_next c.put_name-behind.ensures c.put_bytes-parent.ensures) c.put_parent.ensures
