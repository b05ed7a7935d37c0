-- `lines::put_opened` meets its contract.
use native.Mathlib.Omega.{arith}
use Rattle.decimals.proofs.Digits.{decimal_short}
use Rattle.decimals.proofs.Worded.{worded_length}
use Rattle.decimals.specs.Text.{bytes_of}
use Rattle.lines.specs.Lines.{opened_text}
use Rattle.lines.proofs.put_opened.Goals as goal

pub returns : goal.returns
unfolding bytes_of opened_text
returns c =
    let w = c in
    rw w.capped.ensures.0 at w.put_worded.ensures

pub put_worded-requires : goal.put_worded-requires
unfolding bytes_of
put_worded-requires c = let x = c.capped.result in omega (arith, worded_length (bytes_of "OPENED") x, decimal_short x)
