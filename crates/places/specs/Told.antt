-- What a user is told of a refusal: where it was given, and what it means.
use Rattle.std.specs.Prelude.{ℕ, ◌+◌, cond, ◌&&◌, List, ◌++◌, eqb, leb}
use Rattle.decimals.specs.Decimal.{decimal, capped}
use Rattle.decimals.specs.Worded.{space}
use Rattle.decimals.specs.Text.{bytes_of}
use Rattle.refusals.specs.Refusals.{words_line}

-- the record of a file after those that were read; records are counted from 1, and no file has 65,535
unfoldable pub record_place : (records : List ℕ) (read : ℕ) → List ℕ
record_place records read = records ++ (space ++ decimal (capped read + 1)) ++ bytes_of ": "

-- a policy is refused by 2 to 9 at a record, else as a whole
unfoldable pub policy_place : (number read : ℕ) → List ℕ
policy_place number read = cond (leb 2 number && leb number 9) (record_place (bytes_of "policy record") read) (bytes_of "policy file: ")

-- an envelope is refused by 17 at its header, else at a record
unfoldable pub envelope_place : (number read : ℕ) → List ℕ
envelope_place number read = cond (eqb number 17) (bytes_of "envelope header: ") (record_place (bytes_of "envelope record") read)

unfoldable pub policy_line : (number read : ℕ) → List ℕ
policy_line number read = policy_place number read ++ words_line number

-- a roster is refused at a record
unfoldable pub roster_line : (number read : ℕ) → List ℕ
roster_line number read = record_place (bytes_of "roster record") read ++ words_line number

unfoldable pub tree_line : (number : ℕ) → List ℕ
tree_line number = bytes_of "tree file: " ++ words_line number

unfoldable pub envelope_line : (number read : ℕ) → List ℕ
envelope_line number read = envelope_place number read ++ words_line number
