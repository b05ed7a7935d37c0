-- `lines::put_made` meets its contract.
use native.Mathlib.Omega.{arith}
use Rattle.buffers.proofs.Writes.{put_length, put_next}
use Rattle.decimals.proofs.Digits.{decimal_short}
use Rattle.decimals.proofs.Worded.{worded_length}
use Rattle.lines.proofs.put_made.Goals as goal

pub returns : goal.returns
returns c = put_next (rw c.capped.ensures.0 at c.put_worded-end.ensures) c.put_option.ensures

pub put_worded-end-requires : goal.put_worded-end-requires
put_worded-end-requires c = let x = c.capped.result in omega (arith, worded_length c.args.word.now x, decimal_short x)

pub put_option-requires : goal.put_option-requires
put_option-requires c =
    let w = c.put_worded-end.ensures in
    let x = c.capped.result in
    omega (arith, w.behind, put_length w, worded_length c.args.word.now x, decimal_short x)
