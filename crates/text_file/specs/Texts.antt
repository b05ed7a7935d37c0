-- Files that are texts.
use Rattle.std.specs.Prelude.{ℕ, Bool, true, false, not, ◌&&◌, ◌||◌, List, [], ◌∷◌, eqb}
use Rattle.shown.specs.Shown.{is_control}

-- a byte of a text: a tab, a line feed, a carriage return, or not a control character
abbrev pub is_text_byte : ℕ → Bool
is_text_byte b = eqb b 9 || eqb b 10 || eqb b 13 || not (is_control b)

unfoldable pub all_text : List ℕ → Bool
all_text [] = true
all_text (b ∷ bs) = is_text_byte b && all_text bs

-- a line feed stands in it somewhere
unfoldable pub has_line : List ℕ → Bool
has_line [] = false
has_line (b ∷ bs) = eqb b 10 || has_line bs

-- a text has a line feed, and no byte that is not a text's; a file that was cut within its first record has none
unfoldable pub is_text : List ℕ → Bool
is_text s = has_line s && all_text s
