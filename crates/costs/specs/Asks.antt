-- What the figures ask of accounts and order, and of accounts with one more.
use Rattle.std.specs.Prelude.{ℕ, ◌<◌, Bool, true, List, ◌≡◌}
use Rattle.trees.specs.Growth.{one_more, Grows}
use Rattle.weights.specs.Tables.{entries}

-- at every label one account more costs at least 1 and at most the ceiling
abbrev pub AllGrow : (n : ℕ) (count : ℕ → ℕ) (le : ℕ → ℕ → Bool) → Type 0
AllGrow n count le = (l : ℕ) → l < n → Grows n count le l

-- every label is at or below itself
abbrev pub AllSame : (n : ℕ) (le : ℕ → ℕ → Bool) → Type 0
AllSame n le = (l : ℕ) → l < n → le l l ≡ true

-- a table of the accounts with one more at label l
abbrev pub HoldsOneMore : (counts : List ℕ) (l : ℕ) (more : List ℕ) → Type 0
HoldsOneMore counts l more = (m : ℕ) → entries more m ≡ one_more (entries counts) l m
