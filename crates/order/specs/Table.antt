-- The order as a table: "64 rows of 64 yes-or-no entries" (document 01, "The policy file").
-- Row m lists the labels at or above m: entry l of row m says whether label m is at or below label l.
use Rattle.std.specs.Prelude.{ℕ, zero, suc, min, ◌<◌, Bool, true, false, cond, ◌&&◌, ◌||◌, List, [], ◌∷◌, ◌≡◌, eqb, get_or, replicate, set}
use Rattle.order.specs.declared.Pair.{Pair}

-- entry l of row m, and no past the table's ends; of the order table: whether label m is at or below label l
abbrev pub entry_at : List (List Bool) → ℕ → ℕ → Bool
entry_at rows m l = get_or (get_or rows m []) l false

-- a row that says no of every label
abbrev pub no_row : List Bool
no_row = replicate 64 false

-- the row that says yes of label m alone
abbrev pub alone : ℕ → List Bool
alone m = set no_row m true

-- the row of label u
abbrev pub row_at : List (List Bool) → ℕ → List Bool
row_at rows u = get_or rows u []

-- two rows in one: yes where either is
unfoldable pub joined : List Bool → List Bool → List Bool
joined [] s = s
joined (a ∷ r) [] = a ∷ r
joined (a ∷ r) (b ∷ s) = (a || b) ∷ joined r s

-- whether a pair leads from label u down to label m
unfoldable pub linked : List Pair → (m u : ℕ) → Bool
linked [] m u = false
linked (p ∷ ps) m u = (eqb p.lower m && eqb p.upper u) || linked ps m u

-- a table that says which labels lead down to which
pub record Links (table : List (List Bool)) (pairs : List Pair) : Type 0 where
  pub says : (m u : ℕ) → m < 64 → u < 64 → entry_at table m u ≡ linked pairs m u

-- a row of label m: m itself, and the rows of those labels below k from which a pair leads down to it
unfoldable pub row_up_to : List (List Bool) → (leads : ℕ → Bool) → (m k : ℕ) → List Bool
row_up_to rows leads m zero = alone m
row_up_to rows leads m (suc u) = let row = row_up_to rows leads m u in cond (leads u) (joined row (row_at rows u)) row

-- the row of label m, from the complete rows of the labels before it
unfoldable pub label_row : List (List Bool) → (leads : ℕ → Bool) → (m : ℕ) → List Bool
label_row rows leads m = row_up_to rows leads m m

-- the rows of the labels below n, in ascending order; the others are all no
unfoldable pub rows_below : ℕ → (leads : ℕ → ℕ → Bool) → List (List Bool)
rows_below zero leads = replicate 64 no_row
rows_below (suc n) leads = let rows = rows_below n leads in set rows n (label_row rows (leads n) n)

-- the table of a policy's labels and over-pairs; a label count above 64 counts as 64
unfoldable pub order_table : ℕ → List Pair → List (List Bool)
order_table labels pairs = rows_below (min labels 64) (linked pairs)
