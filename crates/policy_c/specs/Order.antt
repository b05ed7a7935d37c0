-- What `yendlowa_order` answers: the policy's order as one array, which a struct for C can hold.
use Rattle.std.specs.Prelude.{ℕ, ◌/◌, ◌%◌, Bool, List}
use Rattle.lists.specs.Tables.{listed}
use Rattle.order.specs.Table.{entry_at}
use Rattle.policy_file.specs.Whole.{policy_refusal, order_of}
use Rattle.policy_c.specs.declared.Rows.{Rows}

-- entry i of the rows one after the other
unfoldable pub line_entry : List (List Bool) → ℕ → Bool
line_entry rows i = entry_at rows (i / 64) (i % 64)

-- "64 rows of 64 yes-or-no entries", one row after the other
unfoldable pub in_line : List (List Bool) → List Bool
in_line rows = listed (line_entry rows) 4096

-- the refusal, and the order; with a refusal there are no labels, and "a yes or no is no"
unfoldable pub rows_of : List ℕ → Rows
rows_of file = record { refusal = policy_refusal file; rows = in_line (order_of file) }
