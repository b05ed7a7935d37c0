-- The verbs of a program: which calls it takes, and its tables.
use Rattle.std.specs.Prelude.{ℕ, ◌-◌, Bool, false, cond, ◌&&◌, List, [], ◌∷◌, ◌++◌, map, leb, length, replicate}
use Prim.Native.String.{String}
use Rattle.decimals.specs.Text.{bytes_of}
use Rattle.verbs.specs.Verbs.{is_verb}

-- a verb: its word, and how many arguments it takes at least and at most
abbrev pub Verb : Type 0
Verb = String × ℕ × ℕ

-- whether a call is taken, by its first argument and how many there are: the verb that this word says takes so many
unfoldable pub takes_call : (verbs : List Verb) (word : List ℕ) (count : ℕ) → Bool
takes_call [] word count = false
takes_call (v ∷ verbs) word count =
    cond (is_verb (bytes_of v.0) word) (leb v.1 count && leb count v.2) (takes_call verbs word count)

-- a table has 16 rows: one for each verb, and empty ones after them
unfoldable pub rows_of : {A : Type 0} → A → List A → List A
rows_of empty rows = rows ++ replicate (16 - length rows) empty

unfoldable pub words_of : List Verb → List (List ℕ)
words_of verbs = rows_of [] (map (λ (v : Verb). bytes_of v.0) verbs)

unfoldable pub least_of : List Verb → List ℕ
least_of verbs = rows_of 0 (map (λ (v : Verb). v.1) verbs)

unfoldable pub most_of : List Verb → List ℕ
most_of verbs = rows_of 0 (map (λ (v : Verb). v.2) verbs)
