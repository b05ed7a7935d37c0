-- `issuer_tables::least` meets its contract: the numbers are those of the verbs.
use mathlib.Core.Path.{refl}
use Rattle.verbs.specs.Tables.{rows_of, least_of}
use Rattle.issuer_tables.specs.Calls.{verbs}
use Rattle.issuer_tables.proofs.least.Goals as goal

pub returns : goal.returns
unfolding rows_of least_of verbs
returns c = refl
