-- `decimals::put_worded` meets its contract.
use native.Mathlib.Omega.{arith}
use Rattle.decimals.specs.Worded.{worded}
use Rattle.buffers.proofs.Writes.{put_next}
use Rattle.decimals.proofs.Worded.{worded_length}
use Rattle.decimals.proofs.put_worded.Goals as goal

pub put_bytes-behind-requires : goal.put_bytes-behind-requires
put_bytes-behind-requires c = let a = c.args in omega (arith, worded_length a.word.now a.x)

pub put_number-end-requires : goal.put_number-end-requires
put_number-end-requires c =
    let b = c in
    let a = b.args in
    omega (arith, worded_length a.word.now a.x)

pub put_bytes-requires : goal.put_bytes-requires
put_bytes-requires c =
    let b = c in
    let a = b.args in
    omega (arith, worded_length a.word.now a.x)

pub returns : goal.returns
unfolding worded
returns c =
    let e = c in
    let n = e in
    let b = n in
    put_next (put_next b.put_bytes-behind.ensures n.put_number-end.ensures) e.put_bytes.ensures
