-- Where things stand in a policy file (01, "The policy file"): all `LB` records (12 bytes) precede all `OV` records (4 bytes).
use Rattle.std.specs.Prelude.{ℕ, ◌+◌, ◌*◌, Bool, List, get_or, Option}
use Rattle.format.specs.Bytes.{bytes_at, same_bytes, number_at}
use Rattle.format.specs.Search.{first_from}
use Rattle.order.specs.declared.Pair.{Pair}

-- where the record after so many labels and pairs starts
abbrev pub place_of : ℕ → ℕ → ℕ
place_of labels pairs = 12 * labels + 4 * pairs

-- label i's name: 8 bytes after the mark
unfoldable pub name_of : List ℕ → ℕ → List ℕ
name_of file i = bytes_at file (12 * i + 2) 8

-- the count of accounts at label i: 2 bytes after the name
unfoldable pub count_of : List ℕ → ℕ → ℕ
count_of file i = number_at file (12 * i + 10)

-- pair k of a file with so many labels: the upper label's number, then the lower's, 1 byte each after the mark
unfoldable pub pair_at : List ℕ → ℕ → ℕ → Pair
pair_at file labels k = record {
  upper = get_or file (place_of labels k + 2) 0;
  lower = get_or file (place_of labels k + 3) 0;
}

-- whether label i has the name
unfoldable pub is_named : List ℕ → List ℕ → ℕ → Bool
is_named file name i = same_bytes (name_of file i) name

-- the first of so many labels that has the name
unfoldable pub label_named : List ℕ → ℕ → List ℕ → Option ℕ
label_named file labels name = first_from (is_named file name) 0 labels
