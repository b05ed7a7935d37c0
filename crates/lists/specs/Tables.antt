-- Tests of the numbers below a number, and lists by place.
use Rattle.std.specs.Prelude.{ℕ, zero, suc, ◌-◌, Bool, true, false, ◌&&◌, ◌||◌, List, [], ◌∷◌, ◌++◌, replicate}

-- whether some number below n has p
unfoldable pub some_below : (ℕ → Bool) → ℕ → Bool
some_below p zero = false
some_below p (suc n) = some_below p n || p n

-- whether every number below n has p
unfoldable pub every_below : (ℕ → Bool) → ℕ → Bool
every_below p zero = true
every_below p (suc n) = every_below p n && p n

-- f 0, f 1, .. up to n of them
unfoldable pub listed : {A : Type 0} → (ℕ → A) → ℕ → List A
listed f zero = []
listed f (suc n) = listed f n ++ (f n ∷ [])

-- the same in `size` places, with z after them
abbrev pub filled : {A : Type 0} → ℕ → A → (ℕ → A) → ℕ → List A
filled size z f n = listed f n ++ replicate (size - n) z

-- the lists f 0, f 1, .. up to n of them, one after the other
unfoldable pub concat_below : (ℕ → List ℕ) → ℕ → List ℕ
concat_below f zero = []
concat_below f (suc n) = concat_below f n ++ f n
