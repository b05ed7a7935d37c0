-- `verbs::find` meets its contract. Invariant: none of the first i rows is the verb.
use mathlib.Core.Path.{sym, ◌∙◌}
use native.Mathlib.Omega.{arith}
use Rattle.verbs.proofs.Places.{place_here, place_more, place_end}
use Rattle.verbs.proofs.find.Goals as goal

pub returns-then-is_verb : goal.returns-then-is_verb
returns-then-is_verb c =
    let v = c in
    let l = v in
    let a = l in
    omega (arith, place_here a.args.words a.args.word.now l.loop-i.i (omega arith) (sym v.is_verb.ensures ∙ c.if-is_verb.true))

pub loop-i-preserved : goal.loop-i-preserved
loop-i-preserved c =
    let v = c in
    let l = v in
    let a = l in
    omega (arith, place_more a.args.words a.args.word.now l.loop-i.i (omega arith) (sym v.is_verb.ensures ∙ c.if-is_verb.false))

pub returns : goal.returns
returns c =
    let l = c in
    let a = l in
    omega (arith, place_end a.args.words a.args.word.now l.loop-i.i (omega arith))
