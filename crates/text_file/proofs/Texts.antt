-- Files that are texts, and others.
use mathlib.Core.Bool.{true, false}
use mathlib.Core.List.{[], ◌∷◌}
use mathlib.Core.Path.{◌≡◌, refl}
use Rattle.text_file.specs.Texts.{all_text, has_line, is_text}

-- `LB`, a tab and a line end of two bytes; the front of a record; a record's two-byte number
pub text_example : is_text (76 ∷ 66 ∷ 9 ∷ 13 ∷ 10 ∷ []) ≡ true
unfolding is_text all_text has_line
text_example = refl

pub front_example : is_text (76 ∷ 66 ∷ 65 ∷ []) ≡ false
unfolding is_text all_text has_line
front_example = refl

pub number_example : is_text (76 ∷ 66 ∷ 0 ∷ 10 ∷ []) ≡ false
unfolding is_text all_text has_line
number_example = refl
