-- `issuer_program::yendlowa_program` meets its contract: the status is that of the call that was made.
use mathlib.Core.Path.{◌≡◌}
use Rattle.outcomes.specs.Status.{status_of}
use borrow.Author.Rules.{rules}
use Rattle.issuer_program.proofs.yendlowa_program.Goals as goal

pub returns : goal.returns
returns c =
    let same : c.status.result ≡ status_of c.run.result = c.status.ensures in
    (c.run.result, c.run.ensures, search rules)
