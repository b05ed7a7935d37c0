-- `roster_lines::put_total` meets its contract: the sum of the labels' counts.
use Rattle.std.proofs.Common.{arith, ◌∙◌}
use Rattle.decimals.specs.Text.{bytes_of}
use Rattle.roster_lines.proofs.Lines.{sum_first}
use Rattle.roster_lines.proofs.put_total.Goals as goal

pub put_worded-requires : goal.put_worded-requires
unfolding bytes_of
put_worded-requires c =
    let e = c.sum_counts-total.ensures ∙ sum_first c.args.counts c.args.labels (omega arith) in
    rw e c.requires.1

pub returns : goal.returns
unfolding bytes_of
returns c =
    let e = c.sum_counts-total.ensures ∙ sum_first c.args.counts c.args.labels (omega arith) in
    rw (← e) c.put_worded.ensures
