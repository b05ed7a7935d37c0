-- `aead::one_time_key` meets its contract.
use mathlib.Core.Path.{ap, ◌∙◌}
use lib.ListN.{take}
use Rattle.aead.specs.Aead.{one_time_key}
use Rattle.aead.proofs.one_time_key.Goals as goal

pub returns : goal.returns
unfolding one_time_key
returns c = c.read_secret.ensures ∙ ap (take 32) c.block.ensures
