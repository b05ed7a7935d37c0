-- `dot_lines::DotLines::put_node` meets its contract.
use Rattle.buffers.proofs.Writes.{put_next}
use Rattle.plan_texts.proofs.DrawingParts.{node_parts}
use Rattle.plan_texts.specs.Drawing.{labelled, between, fields}
use Rattle.dot_lines.proofs.DotLines.put_node.Goals as goal

pub returns : goal.returns
returns c =
    let p = c.args.self.now.printed in
    let f = c.figures-count.result in
    let told = c.figures-count.ensures in
    rw (node_parts p.policy.now p.plan.now c.args.m f.count told.count)
    (rw⁻¹ (told.weight, told.size)
    (put_next
    (put_next {s = between p.policy.now c.args.m labelled c.args.m} {t = fields f.count f.weight f.size} c.put_between-behind.ensures c.put_fields-end.ensures)
    c.put_bytes.ensures))
