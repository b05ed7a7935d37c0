-- `names::same_name` meets its contract: arrays are equal where their bytes agree, one by one.
use mathlib.Core.Path.{sym, ◌∙◌}
use Rattle.format.proofs.Bytes.{same_pointwise}
use Rattle.names.proofs.same_name.Goals as goal

pub returns : goal.returns
returns c = c.eq.ensures ∙ sym (same_pointwise _ _)
