-- `places::put_policy` meets its contract.
use native.Mathlib.Omega.{arith}
use Rattle.buffers.proofs.Writes.{put_next}
use Rattle.places.specs.Told.{policy_line}
use Rattle.places.proofs.Places.{policy_short}
use Rattle.places.proofs.put_policy.Goals as goal

pub returns : goal.returns
unfolding policy_line
returns c =
    let l = c in
    let p = l in
    put_next p.put_policy_place-next.ensures l.put_line.ensures

pub put_line-requires : goal.put_line-requires
put_line-requires c =
    let a = c.args in
    omega (arith, policy_short a.number a.read)
