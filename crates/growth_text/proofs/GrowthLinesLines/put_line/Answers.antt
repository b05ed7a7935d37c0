-- `put_line` of `growth_text::GrowthLines` meets its contract: a name, the figures and a line feed.
use Rattle.buffers.proofs.Writes.{put_next}
use Rattle.growth_answers.proofs.GrowthParts.{growth_line_parts}
use Rattle.growth_text.proofs.Room.{room_read}
use Rattle.growth_text.proofs.GrowthLinesLines.put_line.Goals as goal

pub returns : goal.returns
returns c =
    let s = c.args.self.now in
    rw (growth_line_parts s.policy.now s.growth.now c.args.m _ (room_read s.policy.now c.args.m c.read_number-room.ensures))
    (put_next (put_next c.put_name-behind.ensures c.put_figures-end.ensures) c.put_bytes.ensures)
