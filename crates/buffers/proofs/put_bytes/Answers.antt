-- `buffers::put_bytes` meets its contract.
use mathlib.Core.Path.{refl}
use Rattle.lists.proofs.Pasted.{part_copied}
use Rattle.buffers.proofs.put_bytes.Goals as goal

pub returns : goal.returns
returns c =
    let a = c.args in
    record { fits = c.requires; behind = refl; written = part_copied a.out.now a.at a.bytes.now c.copy_from_slice.new.self c.requires c.copy_from_slice.ensures.after }
