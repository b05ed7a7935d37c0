-- `verbs::takes` meets its contract.
use mathlib.Core.Path.{sym}
use native.Mathlib.Omega.{arith}
use Rattle.verbs.proofs.Counts.{takes_most, takes_few, takes_none}
use Rattle.verbs.proofs.takes.Goals as goal

pub returns-then-least-verb : goal.returns-then-least-verb
returns-then-least-verb c =
    let a = c.args in
    sym (takes_most a.least a.most a.verb a.count (omega arith) c.if-least-verb.true)

pub returns-else-least-verb : goal.returns-else-least-verb
returns-else-least-verb c =
    let a = c.args in
    sym (takes_few a.least a.most a.verb a.count (omega arith) c.if-least-verb.false)

pub returns : goal.returns
returns c =
    let a = c.args in
    sym (takes_none a.least a.most a.verb a.count (omega arith))
