-- One turn of each loop: what the total is with one label more, and whether a label is in a set.
use Prim.Native.Nat.{ℕ, ◌+◌, ◌*◌, ◌≤◌}
use mathlib.Core.Bool.{Bool, not, ◌&&◌, ◌||◌}
use mathlib.Core.Path.{◌≡◌, sym, ap₂, ◌∙◌}
use native.Mathlib.Nat.{mul-le-mul}
use native.Mathlib.Numerals.{add-one}
use lib.Dec.{eqb}
use Rattle.trees.specs.Trees.{top}
use Rattle.trees.specs.Sums.{sum}
use Rattle.trees.specs.Weights.{in_smallest}
use Rattle.trees.proofs.Sums.{sum_suc}

-- the keys of one label's accounts, with the widths that they are held in
pub keys_bound : {k s : ℕ} → k ≤ 65_535 → s ≤ 255 → k * s ≤ 16_711_425
keys_bound hk hs = mul-le-mul hk hs

-- a sum
pub sum_turn : (f : ℕ → ℕ) (n s x : ℕ) → s ≡ sum f n → x ≡ f n → s + x ≡ sum f (n + 1)
sum_turn f n s x e h = rw add-one (ap₂ ◌+◌ e h ∙ sym (sum_suc f n))

-- whether a label is in the smallest set, with its parent q in hand
pub in_smallest_held : (le : ℕ → ℕ → Bool) (parent : ℕ → ℕ) (l m q : ℕ) → q ≡ parent m → (le m l && (eqb m top || not (le q l))) ≡ in_smallest le parent l m
unfolding in_smallest
in_smallest_held le parent l m q e = rw e
