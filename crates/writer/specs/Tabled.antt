-- What is written, by the file's names, the order table and the table of parents.
use Rattle.std.specs.Prelude.{ℕ, Bool, List}
use Rattle.envelopes.specs.Envelope.{records_below, envelope_of}
use Rattle.order.specs.Table.{entry_at}
use Rattle.policy_file.specs.File.{name_of}
use Rattle.weights.specs.Tables.{entries}

module _ (file : List ℕ) (rows : List (List Bool)) (parents root : List ℕ) (l : ℕ) where
  -- the records of the first labels
  abbrev pub table_records : (labels : ℕ) → List ℕ
  table_records labels = records_below (name_of file) (entry_at rows) (entries parents) root l labels

  -- the envelope of an account at label l
  abbrev pub table_envelope : (labels account : ℕ) → List ℕ
  table_envelope labels account = envelope_of (name_of file) (entry_at rows) (entries parents) root l labels account
