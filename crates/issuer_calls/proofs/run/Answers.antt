-- `issuer_calls::run` meets its contract.
use mathlib.Core.Path.{refl}
use Rattle.decimals.specs.Text.{bytes_of}
use Rattle.issuer_calls.proofs.run.Goals as goal

pub run_as-requires : goal.run_as-requires
unfolding bytes_of
run_as-requires c = refl
