-- `decimals::put_decimal` meets its contract. Invariant: the digits after place i are gathered, those of `rest` are to come.
use mathlib.Core.Path.{refl}
use native.Mathlib.Omega.{arith}
use Rattle.decimals.proofs.Gathering.{gathered_none, gathered_more, gathered_all}
use Rattle.decimals.proofs.put_decimal.Goals as goal

pub loop-rest-init : goal.loop-rest-init
loop-rest-init c = gathered_none c.args.x _ (omega arith) refl

pub loop-rest-preserved : goal.loop-rest-preserved
loop-rest-preserved c =
    let l = c.loop-rest in
    (gathered_more c.args.x l.digits l.i l.rest l.invariant (omega arith)).1

pub put_bytes-requires : goal.put_bytes-requires
put_bytes-requires c =
    let l = c in
    let s = l in
    rw (gathered_all s.args.x l.loop-rest.digits l.loop-rest.i l.loop-rest.rest l.loop-rest.invariant (omega arith)) s.requires

pub returns : goal.returns
returns c =
    let l = c in
    let s = l in
    rw (gathered_all s.args.x l.loop-rest.digits l.loop-rest.i l.loop-rest.rest l.loop-rest.invariant (omega arith)) at c.put_bytes.ensures
