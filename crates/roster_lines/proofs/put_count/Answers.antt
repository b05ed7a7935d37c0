-- `roster_lines::put_count` meets its contract: a name, a number and a line feed.
use native.Mathlib.Omega.{arith}
use Rattle.buffers.proofs.Writes.{put_next}
use Rattle.decimals.proofs.Worded.{worded_length}
use Rattle.decimals.specs.Worded.{worded}
use Rattle.format.specs.Names.{unpadded}
use Rattle.policy_file.specs.File.{name_of}
use Rattle.roster_lines.proofs.put_count.Goals as goal

pub put_name-behind-requires : goal.put_name-behind-requires
put_name-behind-requires c =
    let s = c in
    let a = s.args in
    (s.requires.0, omega (arith, worded_length (unpadded (name_of a.policy.now a.l)) a.count))

pub put_number-end-requires : goal.put_number-end-requires
put_number-end-requires c =
    let a = c.args in
    omega (arith, worded_length (unpadded (name_of a.policy.now a.l)) a.count)

pub put_bytes-requires : goal.put_bytes-requires
put_bytes-requires c =
    let a = c.args in
    omega (arith, worded_length (unpadded (name_of a.policy.now a.l)) a.count)

pub returns : goal.returns
unfolding worded
returns c =
    let e = c in
    let x = e in
    let n = x in
    put_next (put_next n.put_name-behind.ensures x.put_number-end.ensures) e.put_bytes.ensures
