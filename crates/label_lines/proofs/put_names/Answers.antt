-- `label_lines::put_names` meets its contract. Invariant: the lines of the first k labels are written.
use native.Mathlib.Numerals.{add-one}
use native.Mathlib.Omega.{arith}
use Rattle.buffers.proofs.Writes.{put_next, put_nothing}
use Rattle.lists.specs.Tables.{concat_below}
use Rattle.label_lines.specs.Labels.{name_lines}
use Rattle.label_lines.proofs.Labelled.{name_lines_short}
use Rattle.label_lines.proofs.put_names.Goals as goal

pub loop-k-init : goal.loop-k-init
unfolding name_lines concat_below
loop-k-init c = put_nothing _ _ (omega arith)

pub put_name-at-requires : goal.put_name-at-requires
put_name-at-requires c =
    let l = c.loop-k in
    (omega arith, omega (arith, l.invariant.behind, name_lines_short c.args.names l.k))

pub loop-k-preserved : goal.loop-k-preserved
unfolding name_lines concat_below
loop-k-preserved c = rw add-one (put_next c.loop-k.invariant c.put_name-at.ensures)
