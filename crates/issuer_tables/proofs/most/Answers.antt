-- `issuer_tables::most` meets its contract: the numbers are those of the verbs.
use mathlib.Core.Path.{refl}
use Rattle.verbs.specs.Tables.{rows_of, most_of}
use Rattle.issuer_tables.specs.Calls.{verbs}
use Rattle.issuer_tables.proofs.most.Goals as goal

pub returns : goal.returns
unfolding rows_of most_of verbs
returns c = refl
