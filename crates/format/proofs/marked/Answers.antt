-- `format::marked` meets its contract: arrays are equal where their bytes agree, one by one.
use mathlib.Core.Path.{sym, ◌∙◌}
use Rattle.format.proofs.Bytes.{same_pointwise}
use Rattle.format.proofs.marked.Goals as goal

pub returns : goal.returns
returns c = let e = c.read_bytes.ensures in rw (← e) (c.eq.ensures ∙ sym (same_pointwise _ _))
