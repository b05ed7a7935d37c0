-- `growth_text::put_figures` meets its contract: two numbers, or two dashes.
use Rattle.buffers.proofs.Writes.{put_next}
use Rattle.growth_answers.proofs.GrowthParts.{figures_some}
use Rattle.growth_text.proofs.put_figures.Goals as goal

pub returns-then-room : goal.returns-then-room
returns-then-room c =
    let cost = rw c.from.ensures at c.put_number-behind.ensures in
    let ceiling = rw c.from-then-room.ensures at c.put_number.ensures in
    rw (figures_some c.args.cost c.args.ceiling c.if-room.true) (put_next cost ceiling)
