-- `verbs::is_verb` meets its contract.
use mathlib.Core.Path.{sym}
use native.Mathlib.Omega.{arith}
use lib.Seq.{length-take-le}
use Rattle.format.proofs.Padding.{unpadded_short}
use Rattle.verbs.proofs.Places.{empty_none, same_verb}
use Rattle.verbs.proofs.is_verb.Goals as goal

pub returns-then-length-eq0 : goal.returns-then-length-eq0
returns-then-length-eq0 c =
    let l = c in
    let a = l in
    sym (empty_none a.args.row a.args.word.now l.unpadded_length-length.result l.unpadded_length-length.ensures c.if-length-eq0.true)

pub returns : goal.returns
returns c =
    let l = c in
    let a = l in
    same_verb
    a.args.row
    a.args.word.now
    l.unpadded_length-length.result
    l.unpadded_length-length.ensures
    c.if-length-eq0.false
    c.same.result
    c.same.ensures.0
    c.same.ensures.1

pub slice_bounds-row-end : goal.slice_bounds-row-end
slice_bounds-row-end c =
    let a = c in
    omega (arith, c.unpadded_length-length.ensures, unpadded_short a.args.row)

pub slice_bounds-same-end : goal.slice_bounds-same-end
slice_bounds-same-end c =
    let l = c in
    let row = l.args.row in
    sym (length-take-le l.unpadded_length-length.result row (omega (arith, l.unpadded_length-length.ensures, unpadded_short row)))
