-- `issuer_tables::words` meets its contract: bytes and quoted texts are the same.
use mathlib.Core.Path.{refl}
use Rattle.decimals.specs.Text.{bytes_of}
use Rattle.format.specs.Names.{unpadded}
use Rattle.verbs.specs.Tables.{rows_of, words_of}
use Rattle.issuer_tables.specs.Calls.{verbs}
use Rattle.issuer_tables.proofs.words.Goals as goal

pub returns : goal.returns
unfolding bytes_of unpadded rows_of words_of verbs
returns c = refl
