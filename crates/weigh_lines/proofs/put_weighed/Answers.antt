-- `weigh_lines::put_weighed` meets its contract.
use native.Mathlib.Omega.{arith}
use Rattle.buffers.proofs.Writes.{put_length, put_next}
use Rattle.decimals.proofs.Digits.{decimal_short}
use Rattle.decimals.proofs.Worded.{worded_length}
use Rattle.decimals.specs.Text.{bytes_of}
use Rattle.weigh_lines.specs.Weighed.{weighed_text}
use Rattle.weigh_lines.proofs.put_weighed.Goals as goal

pub returns : goal.returns
unfolding bytes_of weighed_text
returns c = put_next c.put_worded-end.ensures c.put_least.ensures

pub put_worded-end-requires : goal.put_worded-end-requires
unfolding bytes_of
put_worded-end-requires c =
    let x = c.args.total in
    omega (arith, worded_length (bytes_of "TOTAL") x, decimal_short x)

pub put_least-requires : goal.put_least-requires
unfolding bytes_of
put_least-requires c =
    let p = c.put_worded-end in
    let x = c.args.total in
    omega (arith, p.ensures.behind, put_length p.ensures, worded_length (bytes_of "TOTAL") x, decimal_short x)
