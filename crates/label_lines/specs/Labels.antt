-- What `labels` prints, in ASCII: "one space parts the fields, and every line ends in one line feed".
use Rattle.std.specs.Prelude.{ℕ, ◌*◌, List, ◌++◌}
use Rattle.decimals.specs.Text.{bytes_of}
use Rattle.decimals.specs.Worded.{worded, newline}
use Rattle.format.specs.Bytes.{bytes_at}
use Rattle.format.specs.Names.{unpadded}
use Rattle.lists.specs.Tables.{concat_below}

-- `labels`: the account, and the names without their padding; in `names` they stand one after another, 8 bytes each
unfoldable pub name_line : (names : List ℕ) (k : ℕ) → List ℕ
name_line names k = unpadded (bytes_at names (8 * k) 8) ++ newline

unfoldable pub name_lines : (names : List ℕ) (labels : ℕ) → List ℕ
name_lines names labels = concat_below (name_line names) labels

unfoldable pub labels_text : (account : ℕ) (names : List ℕ) (labels : ℕ) → List ℕ
labels_text account names labels = worded (bytes_of "ACCOUNT") account ++ name_lines names labels
