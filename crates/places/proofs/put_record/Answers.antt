-- `places::put_record` meets its contract.
use native.Mathlib.Omega.{arith}
use Rattle.buffers.proofs.Writes.{put_next}
use Rattle.decimals.specs.Text.{bytes_of}
use Rattle.places.proofs.Places.{record_parts, record_length}
use Rattle.places.proofs.put_record.Goals as goal

pub returns : goal.returns
unfolding bytes_of
returns c =
    let e = c in
    let n = e in
    let b = n in
    let p = b in
    let a = p.args in
    rw (record_parts a.records.now a.read p.capped-number.result p.capped-number.ensures.0)
    (put_next (put_next b.put_bytes-next.ensures n.put_number-end.ensures) e.put_bytes.ensures)

pub put_bytes-next-requires : goal.put_bytes-next-requires
put_bytes-next-requires c =
    let p = c in
    let a = p.args in
    omega (arith, record_length a.records.now a.read p.capped-number.result p.capped-number.ensures.0)

pub put_number-end-requires : goal.put_number-end-requires
put_number-end-requires c =
    let p = c in
    let a = p.args in
    omega (arith, record_length a.records.now a.read p.capped-number.result p.capped-number.ensures.0)

pub put_bytes-requires : goal.put_bytes-requires
put_bytes-requires c =
    let p = c in
    let a = p.args in
    omega (arith, record_length a.records.now a.read p.capped-number.result p.capped-number.ensures.0)
