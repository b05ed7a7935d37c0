-- What is worked out of a label count n, the accounts count and the test le of an order, as tables of 64 entries: those past the labels are 0.
use Rattle.std.specs.Prelude.{ℕ, ◌*◌, ◌≤◌, ◌<◌, Bool, true, cond, not, List, ◌≡◌, eqb, length, get_or}
use Rattle.lists.specs.Tables.{filled}
use Rattle.trees.specs.Sums.{sum, sum_where}
use Rattle.trees.specs.Trees.{top}
use Rattle.trees.specs.Weights.{weight, smallest, plan}

-- a table as a function of the label
abbrev pub entries : List ℕ → ℕ → ℕ
entries table m = get_or table m 0

-- the accounts of l where l is at or above m, as a table for m
unfoldable pub accounts_above : (count : ℕ → ℕ) (le : ℕ → ℕ → Bool) (m l : ℕ) → ℕ
accounts_above count le m l = cond (le m l) (count l) 0

unfoldable pub above_table : (n : ℕ) (count : ℕ → ℕ) (le : ℕ → ℕ → Bool) (m : ℕ) → List ℕ
above_table n count le m = filled 64 0 (accounts_above count le m) n

-- the weight of p from that table: what stands at labels that are not at or above p
unfoldable pub weight_from : (n : ℕ) (above : ℕ → ℕ) (le : ℕ → ℕ → Bool) (p : ℕ) → ℕ
weight_from n above le p = sum_where (λ l. not (le p l)) above n

-- "for each label a parent of least weight"
unfoldable pub parent_table : (n : ℕ) (count : ℕ → ℕ) (le : ℕ → ℕ → Bool) → List ℕ
parent_table n count le = filled 64 0 (plan n count le) n

-- "weight (for the top its accounts)"
unfoldable pub held_weight : (n : ℕ) (count : ℕ → ℕ) (le : ℕ → ℕ → Bool) (parent : ℕ → ℕ) (m : ℕ) → ℕ
held_weight n count le parent m = cond (eqb m top) (count top) (weight n count le (parent m) m)

unfoldable pub weight_table : (n : ℕ) (count : ℕ → ℕ) (le : ℕ → ℕ → Bool) (parent : ℕ → ℕ) → List ℕ
weight_table n count le parent = filled 64 0 (held_weight n count le parent) n

-- "keys held by one account": the size of the smallest set
unfoldable pub set_size : (n : ℕ) (le : ℕ → ℕ → Bool) (parent : ℕ → ℕ) (l : ℕ) → ℕ
set_size n le parent l = length (smallest n le parent l)

-- the sizes when the labels below m are counted
unfoldable pub sizes_below : (n : ℕ) (le : ℕ → ℕ → Bool) (parent : ℕ → ℕ) (m : ℕ) → List ℕ
sizes_below n le parent m = filled 64 0 (set_size m le parent) n

unfoldable pub size_table : (n : ℕ) (le : ℕ → ℕ → Bool) (parent : ℕ → ℕ) → List ℕ
size_table n le parent = filled 64 0 (set_size n le parent) n

-- "for each label, accounts times size .. summed"
unfoldable pub account_keys : (count size : ℕ → ℕ) (l : ℕ) → ℕ
account_keys count size l = count l * size l

unfoldable pub key_total : (n : ℕ) (count size : ℕ → ℕ) → ℕ
key_total n count size = sum (account_keys count size) n

-- every parent in the table has a row in the order's table
abbrev pub Rowed : ℕ → List ℕ → Type 0
Rowed n parents = (m : ℕ) → m < n → entries parents m < 64

-- no label is at or below one of a larger number
abbrev pub Falls : (ℕ → ℕ → Bool) → Type 0
Falls le = (m l : ℕ) → le m l ≡ true → l ≤ m

-- every entry fits in 16 bits
abbrev pub Small : List ℕ → Type 0
Small table = (l : ℕ) → entries table l ≤ 65_535
