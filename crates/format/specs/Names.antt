-- What a name is (01, "The policy file"). All that a name may be stands in `well_formed`.
use Rattle.std.specs.Prelude.{ℕ, Bool, true, false, cond, ◌&&◌, List, [], ◌∷◌, leb, eqb}
use Rattle.format.specs.declared.Class.TheVariants.{Letter, Digit, Space, Refused}
use Rattle.format.specs.declared.Class.{Class}

-- a capital letter A to Z, a digit, a space, or none of these
unfoldable pub class_of : ℕ → Class
class_of b =
    cond (leb 65 b && leb b 90) Letter
    (cond (leb 48 b && leb b 57) Digit
    (cond (eqb b 32) Space
    Refused))

abbrev pub is_space : Class → Bool
is_space Letter = false
is_space Digit = false
is_space Space = true
is_space Refused = false

-- spaces only
unfoldable pub padding : List ℕ → Bool
padding [] = true
padding (b ∷ bs) = is_space (class_of b) && padding bs

-- a byte that starts a name's rest is a letter or a digit, or a space with spaces only after it
abbrev pub formed_by : Class → Bool → Bool → Bool
formed_by Letter rest pad = rest
formed_by Digit rest pad = rest
formed_by Space rest pad = pad
formed_by Refused rest pad = false

-- "each byte is a capital letter A to Z, a digit or, at the end only, a padding space"
unfoldable pub formed : List ℕ → Bool
formed [] = true
formed (b ∷ bs) = formed_by (class_of b) (formed bs) (padding bs)

-- "at least one is no space"
unfoldable pub some_no_space : List ℕ → Bool
some_no_space [] = false
some_no_space (b ∷ bs) = cond (is_space (class_of b)) (some_no_space bs) true

unfoldable pub well_formed : List ℕ → Bool
well_formed name = formed name && some_no_space name

-- "name without padding": the bytes before the first space
unfoldable pub unpadded : List ℕ → List ℕ
unpadded [] = []
unpadded (b ∷ bs) = cond (eqb b 32) [] (b ∷ unpadded bs)
