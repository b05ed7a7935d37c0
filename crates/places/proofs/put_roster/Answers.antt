-- `places::put_roster` meets its contract.
use native.Mathlib.Omega.{arith}
use Rattle.buffers.proofs.Writes.{put_next}
use Rattle.decimals.specs.Text.{bytes_of}
use Rattle.places.specs.Told.{roster_line}
use Rattle.places.proofs.Places.{record_short}
use Rattle.places.proofs.put_roster.Goals as goal

pub put_record-next-requires : goal.put_record-next-requires
unfolding bytes_of
put_record-next-requires c = let a = c.args in omega (arith, record_short (bytes_of "roster record") a.read)

pub put_line-requires : goal.put_line-requires
unfolding bytes_of
put_line-requires c = let a = c.args in omega (arith, record_short (bytes_of "roster record") a.read)

pub returns : goal.returns
unfolding roster_line bytes_of
returns c =
    let l = c in
    let p = l in
    put_next p.put_record-next.ensures l.put_line.ensures
