-- The words by which a user asks how a program is called, in ASCII.
use Rattle.std.specs.Prelude.{ℕ, List, [], ◌∷◌, ◌⊎◌, ◌≡◌}

-- `help`
abbrev pub help : List ℕ
help = 104 ∷ 101 ∷ 108 ∷ 112 ∷ []

-- `--help`
abbrev pub long_help : List ℕ
long_help = 45 ∷ 45 ∷ 104 ∷ 101 ∷ 108 ∷ 112 ∷ []

-- `-h`
abbrev pub short_help : List ℕ
short_help = 45 ∷ 104 ∷ []

abbrev pub AsksHelp : List ℕ → Type 0
AsksHelp typed = (typed ≡ help) ⊎ (typed ≡ long_help) ⊎ (typed ≡ short_help)
