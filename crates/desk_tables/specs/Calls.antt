-- The verbs of `yendlowa-desk`.
use Rattle.std.specs.Prelude.{List, [], ◌∷◌}
use Rattle.verbs.specs.Tables.{Verb}

-- the word of each, and the least and the greatest number of its arguments, the program's name and the verb among them
unfoldable pub verbs : List Verb
verbs =
    ("derive", 4, 4)
    ∷ ("labels", 3, 3)
    ∷ ("open", 5, 5)
    ∷ []
