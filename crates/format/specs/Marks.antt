-- The marks of 01, "Every record opens with a two-byte ASCII mark", and of 02, as ASCII bytes.
use Rattle.std.specs.Prelude.{ℕ, List, [], ◌∷◌}

abbrev pub LB : List ℕ
LB = 76 ∷ 66 ∷ []

abbrev pub OV : List ℕ
OV = 79 ∷ 86 ∷ []

abbrev pub TR : List ℕ
TR = 84 ∷ 82 ∷ []

abbrev pub EN : List ℕ
EN = 69 ∷ 78 ∷ []

abbrev pub KS : List ℕ
KS = 75 ∷ 83 ∷ []

abbrev pub KD : List ℕ
KD = 75 ∷ 68 ∷ []

-- 02, Ask 2
abbrev pub SM : List ℕ
SM = 83 ∷ 77 ∷ []

-- 02, Ask 4
abbrev pub JN : List ℕ
JN = 74 ∷ 78 ∷ []

abbrev pub MV : List ℕ
MV = 77 ∷ 86 ∷ []

abbrev pub HD : List ℕ
HD = 72 ∷ 68 ∷ []

abbrev pub RL : List ℕ
RL = 82 ∷ 76 ∷ []

abbrev pub WD : List ℕ
WD = 87 ∷ 68 ∷ []
