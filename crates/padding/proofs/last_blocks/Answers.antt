-- `padding::last_blocks` meets its contract.
use mathlib.Core.Path.{◌∙◌}
use Rattle.padding.proofs.Padding.{written}
use Rattle.padding.proofs.last_blocks.Goals as goal

pub returns : goal.returns
returns c =
    written c.args.rest.now c.copy_from_slice.new.self c.copy_from_slice-2.new.self c.args.total c.padded_end-end.result
    c.requires c.padded_end-end.ensures c.copy_from_slice.ensures.after (c.copy_from_slice-2.ensures.after ∙ c.to_be_bytes.ensures)
