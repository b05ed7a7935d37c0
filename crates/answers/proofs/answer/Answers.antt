-- `answers::answer` meets its contract: what is said is printed.
use Rattle.outcomes.proofs.Ending.{ends_said, said_printed}
use Rattle.answers.proofs.answer.Goals as goal

pub returns : goal.returns
returns c =
    let due = c.args.text.now in
    let said = ends_said due c.ended_with.result c.ended_with.ensures.1 in
    said_printed 0 due c.print.ensures said
