-- `dot_lines::DotLines::put_edge` meets its contract.
use Rattle.buffers.proofs.Writes.{put_next}
use Rattle.plan_texts.proofs.DrawingParts.{edge_other}
use Rattle.dot_lines.proofs.DotLines.put_edge.Goals as goal

pub returns : goal.returns
returns c =
    let p = c.args.self.now.printed in
    rw (edge_other p.policy.now p.plan.now c.args.m c.if-m-eq0.false)
    (put_next (rw c.from-parent.ensures at c.put_between-behind.ensures) c.put_bytes.ensures)
