-- Lines that users read, as the definitions give them.
use mathlib.Core.Path.{◌≡◌, refl}
use Rattle.decimals.specs.Text.{bytes_of}
use Rattle.refusals.specs.Line.{line}
use Rattle.refusals.specs.Refusals.{refusal_texts, refusal_words, words_line}

-- numbers that need no place, and one that is not given
pub words_account : words_line 14 ≡ line "the label has no account with this number"
unfolding words_line refusal_words refusal_texts bytes_of line
words_account = refl

pub words_27 : words_line 27 ≡ line "no such refusal"
unfolding words_line refusal_words refusal_texts bytes_of line
words_27 = refl
