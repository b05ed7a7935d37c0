-- `envelope_tables::places` meets its contract. Invariant: the first i places are filled in, and `before` is the next.
use mathlib.Core.Path.{◌≡◌}
use Rattle.lists.specs.Tables.{filled}
use Rattle.order.specs.Table.{entry_at}
use Rattle.envelopes.specs.Envelope.{place_below}
use Rattle.envelope_tables.proofs.places.Given as goal

abbrev pub invariant-loop-i : goal.invariant-loop-i
invariant-loop-i l =
    (l.before ≡ place_below (entry_at l.rows) l.l l.i) × (l.places ≡ filled 64 0 (place_below (entry_at l.rows) l.l) l.i)
