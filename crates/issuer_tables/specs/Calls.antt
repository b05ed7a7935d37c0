-- The verbs of `yendlowa`.
use Rattle.std.specs.Prelude.{List, [], ◌∷◌}
use Rattle.verbs.specs.Tables.{Verb}

-- the word of each, and the least and the greatest number of its arguments, the program's name and the verb among them and the option not
unfoldable pub verbs : List Verb
verbs =
    ("plan", 2, 3)
    ∷ ("draw", 2, 3)
    ∷ ("weigh", 4, 4)
    ∷ ("key", 5, 5)
    ∷ ("issue", 7, 7)
    ∷ ("root", 3, 3)
    ∷ ("seal", 8, 8)
    ∷ ("growth", 2, 3)
    ∷ []
