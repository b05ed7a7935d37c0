-- `shown::show` meets its contract. Invariant: the first i bytes are shown at the buffer's start.
use native.Mathlib.Omega.{arith}
use Rattle.shown.proofs.Showing.{showing_none, showing_refused, showing_more, showing_all}
use Rattle.shown.proofs.show.Goals as goal

pub returns-then-out-value : goal.returns-then-out-value
returns-then-out-value c = let a = c.args in
    showing_refused a.value.now a.out.now c.refuse.ensures (omega arith)

pub loop-i-init : goal.loop-i-init
loop-i-init c = let a = c.args in showing_none a.value.now a.out.now

pub loop-i-preserved : goal.loop-i-preserved
loop-i-preserved c =
    let a = c.args in
    let l = c.loop-i in
    showing_more a.value.now a.out.now l.out l.i l.invariant (omega arith) (omega arith) c.shown_byte.result c.shown_byte.ensures

pub returns : goal.returns
returns c =
    let a = c.args in
    let l = c.loop-i in
    showing_all a.value.now a.out.now l.out l.i l.invariant (omega arith) c.wrote.ensures
