-- `places::put_envelope` meets its contract.
use native.Mathlib.Omega.{arith}
use Rattle.buffers.proofs.Writes.{put_next}
use Rattle.places.specs.Told.{envelope_line}
use Rattle.places.proofs.Places.{envelope_short}
use Rattle.places.proofs.put_envelope.Goals as goal

pub returns : goal.returns
unfolding envelope_line
returns c =
    let l = c in
    let p = l in
    put_next p.put_envelope_place-next.ensures l.put_line.ensures

pub put_line-requires : goal.put_line-requires
put_line-requires c =
    let a = c.args in
    omega (arith, envelope_short a.number a.read)
