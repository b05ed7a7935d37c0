-- `dot::write_dot` meets its contract.
use Rattle.buffers.proofs.Writes.{put_next}
use Rattle.plan_texts.proofs.DrawingParts.{drawing_parts}
use Rattle.dot.proofs.write_dot.Goals as goal

pub returns : goal.returns
returns c =
    let p = c.args.lines.now.printed in
    rw (drawing_parts p.policy.now p.plan.now)
    (put_next (put_next c.put_bytes-start.ensures c.put_lines-behind.ensures) c.put_ending.ensures)
