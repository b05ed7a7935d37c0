-- Lines of a word and a number, in ASCII: "one space parts the fields, and every line ends in one line feed".
use Rattle.std.specs.Prelude.{ℕ, cond, List, [], ◌∷◌, ◌++◌, eqb}
use Rattle.decimals.specs.Decimal.{decimal}

abbrev pub space : List ℕ
space = 32 ∷ []

abbrev pub newline : List ℕ
newline = 10 ∷ []

-- a line of a word and a number
unfoldable pub worded : List ℕ → ℕ → List ℕ
worded word x = word ++ (space ++ decimal x) ++ newline

-- `REFUSED`
abbrev pub refused_word : List ℕ
refused_word = 82 ∷ 69 ∷ 70 ∷ 85 ∷ 83 ∷ 69 ∷ 68 ∷ []

-- "A refused policy prints `REFUSED`, a space and the number.", and so does anything else that is refused
unfoldable pub refused_text : ℕ → List ℕ
refused_text number = worded refused_word number

-- what a program prints: s, the answer, unless a file or an argument is refused under a number above 0
unfoldable pub printed_unless : (refusal : ℕ) → List ℕ → List ℕ
printed_unless refusal s = cond (eqb refusal 0) s (refused_text refusal)
