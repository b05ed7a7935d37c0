-- The order of the labels: what is meant, R m l, and what is tested, le m l: both say that label m is at or below label l.
use Rattle.std.specs.Prelude.{ℕ, ◌≤◌, ◌<◌, ◌≡◌, ◌↔◌, Bool, true}
use Rattle.trees.specs.Trees.{top}

-- The order that is tested is the order that is meant, for labels below n, and it is one with a top:
-- "A label is at or below another when they are the same or a chain of `OV` records leads down to it."
-- "An upper label must have the smaller number, so label 0 is the top."
pub record Order (n : ℕ) (R : ℕ → ℕ → Type 0) (le : ℕ → ℕ → Bool) : Type 0 where
  -- there is a label
  pub some : top < n
  -- the test answers yes exactly where m is at or below l
  pub tested : (m l : ℕ) → m < n → l < n → (le m l ≡ true) ↔ R m l
  -- each label is at or below itself, and what is below what is below is below
  pub same : (m : ℕ) → m < n → R m m
  pub chain : (m l k : ℕ) → m < n → l < n → k < n → R m l → R l k → R m k
  -- the upper label has the smaller number, and every label is at or below the top
  pub upper : (m l : ℕ) → m < n → l < n → R m l → l ≤ m
  pub under : (m : ℕ) → m < n → R m top
