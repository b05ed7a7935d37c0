-- What a user types: names, and the numbers of accounts.
use Rattle.std.specs.Prelude.{ℕ, ◌-◌, min, Bool, true, cond, ◌&&◌, List, [], ◌∷◌, ◌++◌, leb, ltb, length, replicate, None, Option, Some}
use Rattle.format.specs.Digits.{value_of}

-- names are padded for the user: a name of up to 8 bytes with spaces after it; a longer one stays as it is
unfoldable pub padded_name : List ℕ → List ℕ
padded_name s = cond (ltb 8 (length s)) s (s ++ replicate (8 - length s) 32)

-- a path, and `.XXXXXX` after it
unfoldable pub temporary_name : List ℕ → List ℕ
temporary_name path = path ++ (46 ∷ 88 ∷ 88 ∷ 88 ∷ 88 ∷ 88 ∷ 88 ∷ [])

-- an ASCII digit
abbrev pub is_digit : ℕ → Bool
is_digit b = leb 48 b && leb b 57

-- digits only
unfoldable pub all_digits : List ℕ → Bool
all_digits [] = true
all_digits (b ∷ bs) = is_digit b && all_digits bs

-- at least one digit and nothing else is a number: what it says, but 65,536 at the most
unfoldable pub number_of : List ℕ → Option ℕ
number_of s = cond (ltb 0 (length s) && all_digits s) (Some (min (value_of s) 65536)) None
