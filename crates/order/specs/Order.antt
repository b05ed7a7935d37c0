-- What the order of labels is (document 01, "The policy file"), over the list of the policy's over-pairs.
use Rattle.std.specs.Prelude.{ℕ, ◌≤◌, ◌<◌, ◌≡◌}
use mathlib.Core.List.{List, Memᴰ}
use Rattle.order.specs.declared.Pair.{Pair}

-- "A label is at or below another when they are the same or a chain of `OV` records leads down to it."
-- `AtOrBelow pairs m l`: m is at or below l. A chain that reaches a pair's upper label goes on down to its lower one.
pub data AtOrBelow (pairs : List Pair) : ℕ → ℕ → Type 0 where
  same : {l : ℕ} → AtOrBelow pairs l l
  down : {p : Pair} {l : ℕ} → Memᴰ p pairs → AtOrBelow pairs p.upper l → AtOrBelow pairs p.lower l

-- The over-pairs of an accepted policy: "At most 64 labels", a pair's numbers are below the label count (refusal 8),
-- and "An upper label must have the smaller number" (refusal 9).
pub record Proper (labels : ℕ) (pairs : List Pair) : Type 0 where
  pub count : labels ≤ 64
  pub falls : {p : Pair} → Memᴰ p pairs → p.upper < p.lower
  pub within : {p : Pair} → Memᴰ p pairs → p.lower < labels

-- Every label other than 0 is the lower of a pair (refusal 10): then label 0 is the top.
abbrev pub Topped : ℕ → List Pair → Type 0
Topped labels pairs = (m : ℕ) → m < labels → 0 < m → (p : Pair) × Memᴰ p pairs × (p.lower ≡ m)
