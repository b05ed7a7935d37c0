-- `issuer_calls::usage::answer` meets its contract: the text opens with `usage:`.
use mathlib.Core.Path.{refl}
use Rattle.decimals.specs.Text.{bytes_of}
use Rattle.issuer_calls.specs.Ran.{helped}
use Rattle.issuer_calls.proofs.usage.answer.Goals as goal

pub returns : goal.returns
unfolding bytes_of
returns c = helped _ refl c.answer.ensures
