-- `listings::put_lines` meets its contract. Invariant: the first m lines are written.
use Rattle.std.proofs.Common.{◌<◌, refl, arith, add-one}
use Rattle.buffers.proofs.Writes.{put_next, put_nothing}
use Rattle.lists.proofs.Concat.{concat_fit}
use Rattle.lists.specs.Tables.{concat_below}
use Rattle.listings.proofs.put_lines.Goals as goal

pub loop-m-init : goal.loop-m-init
unfolding concat_below
loop-m-init g c = (refl, put_nothing c.args.out.now c.args.start (omega arith))

pub put_line-at-requires : goal.put_line-at-requires
put_line-at-requires g c =
    let l = c.loop-m in
    let below : l.m < g.L.Lines.count c.args.lines.now = omega arith in
    let fit = concat_fit (g.L.Lines.line c.args.lines.now) (g.L.Lines.count c.args.lines.now) l.m below in
    (below, omega arith)

pub loop-m-preserved : goal.loop-m-preserved
unfolding concat_below
loop-m-preserved g c =
    (omega arith, rw add-one (put_next c.loop-m.invariant.1 c.put_line-at.ensures))
