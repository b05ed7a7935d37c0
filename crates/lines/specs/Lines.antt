-- Keys, fingerprints and the lengths of new files as they are printed, in ASCII: "one space parts the fields, and every line ends in one line feed".
use Rattle.std.specs.Prelude.{ℕ, Bool, cond, List, [], ◌++◌}
use Rattle.hexadecimal.specs.Hex.{hex_of}
use Rattle.decimals.specs.Decimal.{capped}
use Rattle.decimals.specs.Text.{bytes_of}
use Rattle.decimals.specs.Worded.{worded, newline}

-- bytes in hexadecimal
unfoldable pub hex_line : List ℕ → List ℕ
hex_line bytes = hex_of bytes ++ newline

-- the fingerprint of a root secret; and where the option `--fingerprint` may ask for it
unfoldable pub fingerprint_line : (print : List ℕ) → List ℕ
fingerprint_line print = bytes_of "FINGERPRINT " ++ hex_line print

unfoldable pub option_line : (print : List ℕ) (option : Bool) → List ℕ
option_line print option = cond option (fingerprint_line print) []

-- `key`
unfoldable pub key_text : (key print : List ℕ) (option : Bool) → List ℕ
key_text key print option = hex_line key ++ option_line print option

-- `issue`: the length of the envelope; none has 65,535 bytes
unfoldable pub issued_text : (size : ℕ) (print : List ℕ) (option : Bool) → List ℕ
issued_text size print option = worded (bytes_of "ISSUED") (capped size) ++ option_line print option

-- `seal`: the length of the sealed file; and `open`: that of the text; none has 65,535 bytes
unfoldable pub sealed_text : (size : ℕ) (print : List ℕ) (option : Bool) → List ℕ
sealed_text size print option = worded (bytes_of "SEALED") (capped size) ++ option_line print option

unfoldable pub opened_text : (size : ℕ) → List ℕ
opened_text size = worded (bytes_of "OPENED") (capped size)
