-- `label_lines::put_labels` meets its contract.
use native.Mathlib.Omega.{arith}
use Rattle.buffers.proofs.Writes.{put_length, put_next}
use Rattle.decimals.proofs.Digits.{decimal_short}
use Rattle.decimals.proofs.Worded.{worded_length}
use Rattle.decimals.specs.Text.{bytes_of}
use Rattle.label_lines.specs.Labels.{labels_text}
use borrow.Author.Rules.{rules}
use Rattle.label_lines.proofs.put_labels.Goals as goal

pub returns : goal.returns
unfolding bytes_of labels_text
returns c = put_next (rw c.from.ensures at c.put_worded-start.ensures) c.put_names.ensures

pub put_worded-start-requires : goal.put_worded-start-requires
unfolding bytes_of
put_worded-start-requires c =
    let x = c.from.result in
    omega (arith, worded_length (bytes_of "ACCOUNT") x, decimal_short x)

pub put_names-requires : goal.put_names-requires
unfolding bytes_of
put_names-requires c =
    let w = c.put_worded-start.ensures in
    let x = c.from.result in
    (search rules, omega (arith, w.behind, put_length w, worded_length (bytes_of "ACCOUNT") x, decimal_short x))
