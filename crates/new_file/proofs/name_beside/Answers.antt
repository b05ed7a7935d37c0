-- `new_file::name_beside` is safe, and its count lies within the buffer.
use Rattle.arguments.proofs.Counting.{handed_counted}
use Rattle.new_file.proofs.name_beside.Goals as goal

pub returns : goal.returns
returns c = let p = c.temporary_name-beside in
    handed_counted _ _ p.result p.new.name p.ensures.0 p.ensures.1
