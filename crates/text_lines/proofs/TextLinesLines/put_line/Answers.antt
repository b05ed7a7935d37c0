-- `put_line` of `text_lines::TextLines` meets its contract.
use Rattle.buffers.proofs.Writes.{put_next}
use Rattle.plan_texts.proofs.ListingParts.{line_parts}
use Rattle.text_lines.proofs.TextLinesLines.put_line.Goals as goal

pub returns : goal.returns
returns c =
    let p = c.args.self.now.printed in
    let told = c.figures-count.ensures in
    let wrote = put_next (put_next c.put_names-behind.ensures c.put_numbers-line_end.ensures) c.put_bytes.ensures in
    rw (line_parts p.policy.now p.plan.now c.args.m c.figures-count.result.count told.count) (rw⁻¹ (told.weight, told.size) wrote)
