-- Where things stand in a key envelope (01, "Secrets, keys and the envelope"): "An envelope is `EN`, account number (2 bytes), the account's
-- label name; then one record for each label at or below it".
use Rattle.std.specs.Prelude.{ℕ, zero, suc, ◌+◌, Bool, cond, List, get_or, Option}
use Rattle.format.specs.Bytes.{bytes_at, same_bytes, number_at}
use Rattle.format.specs.Marks.{KS}
use Rattle.format.specs.Search.{first_from}

-- the account number and the name of the header's 12 bytes
abbrev pub account_in : List ℕ → ℕ
account_in file = number_at file 2

unfoldable pub head_name : List ℕ → List ℕ
head_name file = bytes_at file 4 8

-- whether a `KS` record stands at a place
abbrev pub held_at : List ℕ → ℕ → Bool
held_at file at = same_bytes (bytes_at file at 2) KS

-- "`KS`, name, 32-byte secret (42 bytes)"; "`KD`, name, one byte (11 bytes) otherwise"
abbrev pub record_size : Bool → ℕ
record_size held = cond held 42 11

-- where record k starts: the first after the header, each other one after the one before
unfoldable pub start_of : List ℕ → ℕ → ℕ
start_of file zero = 12
start_of file (suc k) = let at = start_of file k in at + record_size (held_at file at)

-- record k: whether it holds a secret, its name, the secret that it holds, the place that it gives
unfoldable pub is_held : List ℕ → ℕ → Bool
is_held file k = held_at file (start_of file k)

unfoldable pub name_in : List ℕ → ℕ → List ℕ
name_in file k = bytes_at file (start_of file k + 2) 8

unfoldable pub secret_in : List ℕ → ℕ → List ℕ
secret_in file k = bytes_at file (start_of file k + 10) 32

unfoldable pub place_in : List ℕ → ℕ → ℕ
place_in file k = get_or file (start_of file k + 10) 0

-- "the search for a label's record stops at the first record that carries the name"
unfoldable pub carries : List ℕ → List ℕ → ℕ → Bool
carries file name k = same_bytes (name_in file k) name

unfoldable pub record_named : List ℕ → ℕ → List ℕ → Option ℕ
record_named file records name = first_from (carries file name) 0 records
