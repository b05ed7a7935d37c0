-- `places::put_policy_place` meets its contract.
use native.Mathlib.Omega.{arith}
use Rattle.decimals.specs.Text.{bytes_of}
use Rattle.places.proofs.Places.{record_short, policy_record, policy_before, policy_after}
use Rattle.places.proofs.put_policy_place.Goals as goal
use Rattle.places.proofs.put_policy_place.Goals.{in_default-via-then-number-lt2, in_default-via-else-number-lt2+else-number-lt10}

pub returns-in-2-to-9 : goal.returns-in-2-to-9
unfolding bytes_of
returns-in-2-to-9 c =
    let p = c in
    let a = p.args in
    rw (policy_record a.number a.read (omega arith) (omega arith)) p.put_record.ensures

pub returns-in_default : goal.returns-in_default
unfolding bytes_of
returns-in_default c =
    let a = c.args in
    elim c.in_default.branch [
      | in_default-via-then-number-lt2 w ↦ rw (policy_before a.number a.read (omega arith)) c.put_bytes.ensures
      | in_default-via-else-number-lt2+else-number-lt10 w ↦ rw (policy_after a.number a.read (omega arith)) c.put_bytes.ensures
    ]

pub put_record-requires : goal.put_record-requires
unfolding bytes_of
put_record-requires c = omega (arith, record_short (bytes_of "policy record") c.args.read)
