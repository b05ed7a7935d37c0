-- Lines that users read, as the definitions give them.
use mathlib.Core.Path.{◌≡◌, refl}
use Rattle.decimals.specs.Decimal.{digits_before, decimal, capped}
use Rattle.decimals.specs.Text.{bytes_of}
use Rattle.refusals.specs.Line.{line}
use Rattle.refusals.specs.Refusals.{refusal_texts, refusal_words, words_line}
use Rattle.places.specs.Told.{record_place, policy_place, envelope_place, policy_line, tree_line, envelope_line}

-- an empty policy; one whose third record, after two that were read, is cut short
pub policy_empty : policy_line 1 0 ≡ line "policy file: the file is empty"
unfolding policy_line policy_place words_line refusal_words refusal_texts bytes_of line
policy_empty = refl

pub policy_cut : policy_line 3 2 ≡ line "policy record 3: the record is cut short"
unfolding policy_line policy_place record_place words_line refusal_words refusal_texts bytes_of line capped decimal digits_before
policy_cut = refl

pub tree_length : tree_line 11 ≡ line "tree file: the length is not 2 plus the number of labels"
unfolding tree_line words_line refusal_words refusal_texts bytes_of line
tree_length = refl

-- an envelope's header, and its first record
pub envelope_header : envelope_line 17 0 ≡ line "envelope header: the header has fewer than 12 bytes, a mark other than EN, or account 0"
unfolding envelope_line envelope_place words_line refusal_words refusal_texts bytes_of line
envelope_header = refl

pub envelope_first : envelope_line 18 0 ≡ line "envelope record 1: the first record is missing, is not a KS, or does not carry the header's name"
unfolding envelope_line envelope_place record_place words_line refusal_words refusal_texts bytes_of line capped decimal digits_before
envelope_first = refl
