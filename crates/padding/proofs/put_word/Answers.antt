-- `padding::put_word` meets its contract.
use mathlib.Core.Path.{◌∙◌}
use Rattle.lists.proofs.Pasted.{part_copied}
use Rattle.padding.specs.Padding.{word_bytes}
use Rattle.padding.proofs.put_word.Goals as goal

pub returns : goal.returns
unfolding word_bytes
returns c =
    part_copied c.args.buffer.now c.args.at (word_bytes c.args.x) _ c.requires (c.copy_from_slice.ensures.after ∙ c.to_be_bytes.ensures)
