-- `verbs::trimmed_length` meets its contract. Invariant: after the first `end` bytes there are only spaces.
use mathlib.Core.Path.{◌≡◌}
use native.Mathlib.Omega.{arith}
use Rattle.verbs.proofs.Trimmed.{trim_stop, trim_more, trim_none, trimmed}
use Rattle.verbs.proofs.trimmed_length.Goals as goal

pub returns-then-text-end-ne32-clause-value : goal.returns-then-text-end-ne32-clause-value
returns-then-text-end-ne32-clause-value c =
    let l = c in
    let text = l.args.text.now in
    let end = l.loop-end.end in
    let stop = trim_stop text end (omega arith) c.if-text-end-ne32.true in
    (trimmed text end l.loop-end.invariant.0 l.loop-end.invariant.1 stop).0

pub loop-end-preserved : goal.loop-end-preserved
loop-end-preserved c =
    let l = c in
    let text = l.args.text.now in
    omega (arith, l.loop-end.invariant, trim_more text l.loop-end.end (omega arith) c.if-text-end-ne32.false)

pub returns-clause-value : goal.returns-clause-value
returns-clause-value c =
    let l = c in
    let text = l.args.text.now in
    let end = l.loop-end.end in
    let none : end ≡ 0 = omega arith in
    (trimmed text end l.loop-end.invariant.0 l.loop-end.invariant.1 (trim_none text end none)).0
