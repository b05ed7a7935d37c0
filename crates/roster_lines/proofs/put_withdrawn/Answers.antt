-- `roster_lines::put_withdrawn` meets its contract: a number and a word.
use native.Mathlib.Omega.{arith}
use Rattle.buffers.proofs.Writes.{put_next}
use Rattle.decimals.specs.Text.{bytes_of}
use Rattle.roster_answers.proofs.RosterParts.{withdrawn_length}
use Rattle.roster_answers.specs.RosterText.{account_line}
use Rattle.roster_lines.proofs.put_withdrawn.Goals as goal

pub put_decimal-behind-requires : goal.put_decimal-behind-requires
put_decimal-behind-requires c =
    let a = c.args in
    omega (arith, withdrawn_length a.policy.now a.number)

pub put_bytes-requires : goal.put_bytes-requires
put_bytes-requires c =
    let a = c.args in
    omega (arith, withdrawn_length a.policy.now a.number)

pub returns : goal.returns
unfolding account_line bytes_of
returns c =
    let w = c in
    put_next w.put_decimal-behind.ensures w.put_bytes.ensures
