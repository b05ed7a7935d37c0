-- `arguments::is_word` meets its contract.
use Rattle.arguments.proofs.Words.{same_answer}
use Rattle.arguments.proofs.is_word.Goals as goal

pub returns : goal.returns
returns c = same_answer _ _ c.same.result c.same.ensures.0 c.same.ensures.1
