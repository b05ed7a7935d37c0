-- `little_endian::word_at` meets its contract.
use mathlib.Core.Path.{sym, ◌∙◌}
use Rattle.little_endian.proofs.LittleEndian.{four_at}
use Rattle.little_endian.proofs.word_at.Goals as goal

pub returns : goal.returns
returns c = c.from_le_bytes.ensures ∙ sym (four_at c.args.bytes.now c.args.at c.requires)
