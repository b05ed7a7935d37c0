-- What `read_labels` answers for an envelope: its account, and the names of its records in their order.
use Rattle.std.specs.Prelude.{ℕ, ◌*◌, ◌/◌, ◌%◌, cond, List, eqb, get_or, replicate}
use Rattle.lists.specs.Tables.{filled}
use Rattle.envelope_file.specs.File.{account_in, name_in}
use Rattle.envelope_file.specs.Whole.{envelope_refusal, records_of}
use Rattle.envelope_file.specs.declared.Labels.{Labels}

-- the names one after the other, 8 bytes each: byte i of them all is byte i % 8 of the name of record i / 8
unfoldable pub name_byte : List ℕ → ℕ → ℕ
name_byte file i = get_or (name_in file (i / 8)) (i % 8) 0

-- the names of so many records in 512 bytes, with zeros after them
abbrev pub names_in : List ℕ → ℕ → List ℕ
names_in file records = filled 512 0 (name_byte file) (8 * records)

-- "With a refusal every number in the answer is 0"
abbrev pub refused_labels : ℕ → Labels
refused_labels number = record { refusal = number; zeros = replicate 5 0; account = 0; labels = 0; names = replicate 512 0 }

-- the account number of the header, and "one record for each label"
abbrev pub labels_in : List ℕ → Labels
labels_in file = record {
  refusal = 0;
  zeros = replicate 5 0;
  account = account_in file;
  labels = records_of file;
  names = names_in file (records_of file);
}

-- the envelope's refusal, or its labels
unfoldable pub envelope_labels : List ℕ → Labels
envelope_labels file = cond (eqb (envelope_refusal file) 0) (labels_in file) (refused_labels (envelope_refusal file))
