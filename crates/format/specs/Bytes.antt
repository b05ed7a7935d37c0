-- Bytes at a place of a file: their comparison, and two-byte numbers.
use Rattle.std.specs.Prelude.{ℕ, ◌+◌, ◌*◌, ◌/◌, ◌%◌, Bool, true, false, ◌&&◌, List, [], ◌∷◌, eqb, get_or, take, drop}

-- the n bytes from place at on
abbrev pub bytes_at : List ℕ → ℕ → ℕ → List ℕ
bytes_at s at n = take n (drop at s)

-- whether two byte strings are the same
unfoldable pub same_bytes : List ℕ → List ℕ → Bool
same_bytes [] [] = true
same_bytes [] (y ∷ ys) = false
same_bytes (x ∷ xs) [] = false
same_bytes (x ∷ xs) (y ∷ ys) = eqb x y && same_bytes xs ys

-- the two-byte number at a place, most significant byte first
abbrev pub number_at : List ℕ → ℕ → ℕ
number_at s at = get_or s at 0 * 256 + get_or s (at + 1) 0

-- a two-byte number as it is written
abbrev pub number_bytes : ℕ → List ℕ
number_bytes x = x / 256 % 256 ∷ x % 256 ∷ []
