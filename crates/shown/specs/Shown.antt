-- A value that was typed as a message shows it.
use Rattle.std.specs.Prelude.{ℕ, Bool, cond, ◌||◌, List, [], ◌∷◌, eqb, ltb}

-- "control characters (below 32, and 127)"
abbrev pub is_control : ℕ → Bool
is_control b = ltb b 32 || eqb b 127

-- a control character is shown as `?`, any other byte as it is
abbrev pub shown_byte : ℕ → ℕ
shown_byte b = cond (is_control b) 63 b

unfoldable pub shown : List ℕ → List ℕ
shown [] = []
shown (b ∷ bs) = shown_byte b ∷ shown bs
