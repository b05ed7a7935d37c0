-- `little_endian::put_word` meets its contract.
use mathlib.Core.Path.{◌∙◌}
use Rattle.lists.proofs.Pasted.{part_copied}
use Rattle.little_endian.specs.LittleEndian.{little_bytes}
use Rattle.little_endian.proofs.LittleEndian.{little_bytes_of}
use Rattle.little_endian.proofs.put_word.Goals as goal

pub returns : goal.returns
unfolding little_bytes
returns c =
    part_copied c.args.buffer.now c.args.at (little_bytes 4 c.args.x) _ c.requires
    (c.copy_from_slice.ensures.after ∙ c.to_le_bytes.ensures ∙ little_bytes_of 4 c.args.x)
