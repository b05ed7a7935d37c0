-- `put_line` of `dot_lines::DotLines` meets its contract.
use Rattle.buffers.proofs.Writes.{put_next}
use Rattle.plan_texts.specs.Drawing.{drawn}
use Rattle.dot_lines.proofs.DotLinesLines.put_line.Goals as goal

pub returns : goal.returns
unfolding drawn
returns c = put_next c.put_node-behind.ensures c.put_edge.ensures
