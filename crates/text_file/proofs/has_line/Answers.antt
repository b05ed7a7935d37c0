-- `text_file::has_line` meets its contract.
use Rattle.std.proofs.Common.{eqb, refl, rules}
use Rattle.std.proofs.lemmas.List.Recursion.{or_is}
use Rattle.text_file.specs.Texts.{has_line}
use Rattle.text_file.proofs.has_line.Goals as goal

pub returns : goal.returns
unfolding has_line
returns c = or_is has_line (λ b. eqb b 10) refl (λ _ _. refl) c.args.file.now 0 _ (search rules) (search rules)
