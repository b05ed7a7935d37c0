-- `text_file::all_text` meets its contract.
use Rattle.std.proofs.Common.{refl, rules}
use Rattle.std.proofs.lemmas.List.Recursion.{and_is}
use Rattle.text_file.specs.Texts.{is_text_byte, all_text}
use Rattle.text_file.proofs.all_text.Goals as goal

pub returns : goal.returns
unfolding all_text
returns c = and_is all_text is_text_byte refl (λ _ _. refl) c.args.file.now 0 _ (search rules) (search rules)
