-- `aead::length_block` meets its contract.
use mathlib.Core.Path.{◌∙◌}
use Rattle.aead.proofs.Lengths.{lengths_put}
use Rattle.aead.proofs.length_block.Goals as goal

pub returns : goal.returns
returns c =
    lengths_put c.args.aad c.args.ciphertext (c.copy_from_slice.ensures.after ∙ c.to_le_bytes.ensures)
    (c.copy_from_slice-2.ensures.after ∙ c.to_le_bytes-2.ensures)
