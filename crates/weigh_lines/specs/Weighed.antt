-- What `weigh` prints, in ASCII: "one space parts the fields, and every line ends in one line feed".
use Rattle.std.specs.Prelude.{ℕ, Bool, cond, List, ◌++◌}
use Rattle.decimals.specs.Text.{bytes_of}
use Rattle.decimals.specs.Worded.{worded, newline}

-- `weigh`: "its total and a yes or no: yes exactly when no derivation tree of the policy has a smaller total"
unfoldable pub least_line : Bool → List ℕ
least_line least = cond least (bytes_of "LEAST yes") (bytes_of "LEAST no") ++ newline

unfoldable pub weighed_text : (total : ℕ) (least : Bool) → List ℕ
weighed_text total least = worded (bytes_of "TOTAL") total ++ least_line least
