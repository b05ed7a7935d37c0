-- `refusals::refusal_text` meets its contract: the words are copied over zeros.
use mathlib.Core.Path.{sym, ◌∙◌}
use lib.Seq.{length-take-le}
use Rattle.refusals.proofs.Meaning.{words_room, words_copied}
use Rattle.refusals.proofs.refusal_text.Goals as goal

pub slice_bounds-text-end : goal.slice_bounds-text-end
slice_bounds-text-end c = words_room c.args.number (c.as_bytes-words.ensures.value ∙ c.meaning.ensures)

pub slice_bounds-copy_from_slice-end : goal.slice_bounds-copy_from_slice-end
slice_bounds-copy_from_slice-end c = sym (length-take-le _ _ (words_room c.args.number (c.as_bytes-words.ensures.value ∙ c.meaning.ensures)))

pub copy_from_slice-requires : goal.copy_from_slice-requires
copy_from_slice-requires c = length-take-le _ _ (words_room c.args.number (c.as_bytes-words.ensures.value ∙ c.meaning.ensures))

pub returns : goal.returns
returns c = words_copied c.args.number (c.as_bytes-words.ensures.value ∙ c.meaning.ensures) c.copy_from_slice.ensures.after
