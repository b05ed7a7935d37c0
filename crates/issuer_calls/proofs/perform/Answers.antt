-- `issuer_calls::perform` meets its contract: it ends as the verb does.
use Rattle.issuer_calls.specs.Ran.{keyed, issued, sealed}
use Rattle.issuer_calls.proofs.perform.Goals as goal

pub returns-in-3 : goal.returns-in-3
returns-in-3 c = keyed c.in-3.is _ c.key.ensures

pub returns-in-4 : goal.returns-in-4
returns-in-4 c = let e = c.issue.ensures in issued c.in-4.is _ e.0 e.1

pub returns-in-6 : goal.returns-in-6
returns-in-6 c = sealed c.in-6.is _ c.seal.ensures
