-- `envelope_tables::places` meets its contract. Invariant: the first i places are filled in, and `before` is the next.
use mathlib.Core.Path.{refl}
use native.Mathlib.Omega.{arith}
use Rattle.lists.specs.Tables.{listed}
use Rattle.lists.proofs.Tables.{fill_more}
use Rattle.order.specs.Table.{entry_at}
use Rattle.envelopes.specs.Envelope.{place_below}
use Rattle.envelopes.proofs.Places.{place_upto}
use Rattle.envelope_tables.proofs.Tables.{place_next, byte_small}
use Rattle.envelope_tables.proofs.places.Goals as goal

pub loop-i-init : goal.loop-i-init
unfolding listed place_below
loop-i-init c = (refl, refl)

pub overflow_add-before : goal.overflow_add-before
overflow_add-before c =
    let a = c.args in
    let le = entry_at a.rows.now in
    omega (arith, c.loop-i.invariant.0, place_upto le a.l c.loop-i.i, c.from-before.ensures, byte_small (le c.loop-i.i a.l))

pub loop-i-preserved : goal.loop-i-preserved
loop-i-preserved c =
    let p = c.loop-i in
    let a = c.args in
    let le = entry_at a.rows.now in (
      rw c.from-before.ensures (place_next le a.l p.i p.before p.invariant.0 (le p.i a.l) refl),
      rw (p.invariant.1, p.invariant.0) (fill_more (place_below le a.l) 64 0 p.i (omega arith)),
    )
