-- One turn of a loop that adds up: what the sum is with one label more.
use Prim.Native.Nat.{ℕ, ◌+◌}
use mathlib.Core.Bool.{Bool, cond}
use mathlib.Core.Path.{◌≡◌, ap₂}
use native.Mathlib.Numerals.{add-one}
use Rattle.trees.specs.Sums.{sum_where}

-- a conditional sum
pub where_turn : (t : ℕ → Bool) (f : ℕ → ℕ) (n s x : ℕ) → s ≡ sum_where t f n → x ≡ cond (t n) (f n) 0 → s + x ≡ sum_where t f (n + 1)
unfolding sum_where
where_turn t f n s x e h = rw add-one (ap₂ ◌+◌ e h)
