-- One turn of the loop over parents: what the best parent so far is with one label more.
use Prim.Native.Nat.{ℕ, ◌+◌}
use mathlib.Core.Bool.{Bool, true, false, cond, ◌&&◌}
use mathlib.Core.Path.{◌≡◌, refl, sym, ◌∙◌}
use native.Mathlib.Numerals.{add-one}
use Rattle.trees.specs.Weights.{weight, takes, best}
use Rattle.trees.proofs.Ties.{best_pass}

-- the best of the top alone is the top
pub best_one : (n : ℕ) (count : ℕ → ℕ) (le : ℕ → ℕ → Bool) (m : ℕ) → 0 ≡ best n count le m 1
unfolding best
best_one n count le m = either (le m 0 && takes (weight n count le 0 m) (weight n count le 0 m)) 0
  where
    either : (b : Bool) (x : ℕ) → x ≡ cond b x x
    either true x = refl
    either false x = refl

-- the best parent, by the answers of the order and of the rule for ties
module _ (n : ℕ) (count : ℕ → ℕ) (le : ℕ → ℕ → Bool) (m p b : ℕ) (e : b ≡ best n count le m p) where
  pub best_passed : le m p ≡ false → b ≡ best n count le m (p + 1)
  best_passed y = rw add-one (e ∙ sym (best_pass n count le m p y))

  module _ (x w : ℕ) (hx : x ≡ weight n count le p m) (hw : w ≡ weight n count le b m) (y : le m p ≡ true) where
    pub best_taken : takes x w ≡ true → p ≡ best n count le m (p + 1)
    unfolding best
    best_taken t = rw (add-one, y, ← e, ← hx, ← hw, t)

    pub best_left : takes x w ≡ false → b ≡ best n count le m (p + 1)
    unfolding best
    best_left t = rw (add-one, y, ← e, ← hx, ← hw, t)
