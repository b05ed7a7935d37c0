-- `places::put_envelope_place` meets its contract.
use native.Mathlib.Omega.{arith}
use Rattle.decimals.specs.Text.{bytes_of}
use Rattle.places.proofs.Places.{record_short, envelope_header, envelope_record}
use Rattle.places.proofs.put_envelope_place.Goals as goal

pub returns-in-17 : goal.returns-in-17
unfolding bytes_of
returns-in-17 c =
    let p = c in
    let m = p in
    let a = m.args in
    rw (envelope_header a.number a.read m.in-17.is) p.put_bytes.ensures

pub returns-in_default : goal.returns-in_default
unfolding bytes_of
returns-in_default c =
    let p = c in
    let m = p in
    let a = m.args in
    rw (envelope_record a.number a.read (λ e. omega arith)) p.put_record.ensures

pub put_record-requires : goal.put_record-requires
unfolding bytes_of
put_record-requires c = omega (arith, record_short (bytes_of "envelope record") c.args.read)
