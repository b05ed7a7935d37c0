-- `policy_reading::read_to_stop` meets its contract. Invariant: the file's stop is that of its rest, after what is read so far.
use mathlib.Core.Path.{sym, ◌∙◌}
use native.Mathlib.Omega.{arith}
use Rattle.policy_reading.proofs.Records.{so_far, kind_of, label_place, pair_place, reading_label, reading_over, reading_end, reading_refused}
use Rattle.policy_reading.proofs.read_to_stop.Goals as goal

pub bounds-counts-labels : goal.bounds-counts-labels
bounds-counts-labels c =
    let l = c.loop-count in
    let file = c.args.policy.now in
    let r = c.read_record-record in
    let s = so_far l.labels l.pairs l.counts l.over in
    omega (arith, label_place file s l.invariant c.in-Label.count (kind_of file l.labels l.pairs r.result r.ensures ∙ c.in-Label.is))

pub loop-count-preserved-in-Label : goal.loop-count-preserved-in-Label
loop-count-preserved-in-Label c =
    let l = c.loop-count in
    let file = c.args.policy.now in
    let r = c.read_record-record in
    let s = so_far l.labels l.pairs l.counts l.over in
    reading_label file s l.invariant c.in-Label.count (kind_of file l.labels l.pairs r.result r.ensures ∙ c.in-Label.is)

pub bounds-over-pairs : goal.bounds-over-pairs
bounds-over-pairs c =
    let l = c.loop-count in
    let file = c.args.policy.now in
    let r = c.read_record-record in
    let s = so_far l.labels l.pairs l.counts l.over in
    omega (arith, pair_place file s l.invariant c.in-Over.pair (kind_of file l.labels l.pairs r.result r.ensures ∙ c.in-Over.is))

pub loop-count-preserved : goal.loop-count-preserved
loop-count-preserved c =
    let l = c.loop-count in
    let file = c.args.policy.now in
    let r = c.read_record-record in
    let s = so_far l.labels l.pairs l.counts l.over in
    reading_over file s l.invariant c.in-Over.pair (kind_of file l.labels l.pairs r.result r.ensures ∙ c.in-Over.is)

pub returns-in-End : goal.returns-in-End
returns-in-End c =
    let l = c.loop-count in
    let file = c.args.policy.now in
    let r = c.read_record-record in
    sym (reading_end file (so_far l.labels l.pairs l.counts l.over) l.invariant (kind_of file l.labels l.pairs r.result r.ensures ∙ c.in-End.is))

pub returns-in-Refused : goal.returns-in-Refused
returns-in-Refused c =
    let l = c.loop-count in
    let file = c.args.policy.now in
    let r = c.read_record-record in
    sym (reading_refused file (so_far l.labels l.pairs l.counts l.over) l.invariant c.in-Refused.number (kind_of file l.labels l.pairs r.result r.ensures ∙ c.in-Refused.is))
