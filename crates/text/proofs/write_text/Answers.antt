-- `text::write_text` meets its contract.
use Rattle.buffers.proofs.Writes.{put_next}
use Rattle.plan_texts.proofs.ListingParts.{listing_parts}
use Rattle.text.proofs.write_text.Goals as goal

pub returns : goal.returns
returns c =
    let p = c.args.lines.now.printed in
    rw (listing_parts p.policy.now p.plan.now) (put_next c.put_lines-behind.ensures c.put_worded.ensures)
