-- `arguments::name_argument` is safe, and its count lies within the buffer.
use Rattle.arguments.proofs.Counting.{handed_counted}
use Rattle.arguments.proofs.name_argument.Goals as goal

pub returns : goal.returns
returns c = let p = c.pad_name-padded in
    handed_counted _ _ p.result p.new.name p.ensures.0 p.ensures.1
