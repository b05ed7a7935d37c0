-- What decimal digits in ASCII say.
use Rattle.std.specs.Prelude.{ℕ, ◌+◌, ◌-◌, ◌*◌, List, [], ◌∷◌}

-- what digits say, after others that say x, and by themselves
unfoldable pub value_behind : (x : ℕ) → List ℕ → ℕ
value_behind x [] = x
value_behind x (b ∷ bs) = value_behind (10 * x + (b - 48)) bs

abbrev pub value_of : List ℕ → ℕ
value_of s = value_behind 0 s
