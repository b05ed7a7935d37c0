-- `rosters::count_policy` meets its contract.
use native.Mathlib.Omega.{arith}
use lib.ListN.{length}
use Rattle.roster_answers.proofs.Files.{unless_no, unless_kept, labels_few, labels_within, counts_put, unless_given, unless_left}
use Rattle.roster_answers.specs.Counted.{counted_written, counted_after}
use Rattle.roster_answers.specs.Rostered.{counted_policy}
use Rattle.rosters.proofs.count_policy.Goals as goal

pub returns-then-read-ne0 : goal.returns-then-read-ne0
unfolding counted_written counted_after
returns-then-read-ne0 c =
    let r = c in
    let a = r.args in
    let same = r.read_files-read.ensures in
    let t = counted_policy a.policy.now a.roster.now in (
      unless_no a.policy.now a.roster.now same c.refuse.ensures (λ e. omega arith) t (length a.out.now),
      unless_kept a.policy.now a.roster.now same (λ e. omega arith) t a.out.now,
    )

pub returns : goal.returns
unfolding counted_written counted_after
returns c =
    let w = c in
    let t = w in
    let r = t in
    let a = r.args in
    let same = r.read_files-read.ensures in
    let made = counts_put a.policy.now a.roster.now same (omega arith) t.tally-counts.ensures in (
      unless_given a.policy.now a.roster.now same (omega arith) made (length a.out.now) w.recount.ensures.0,
      unless_left a.policy.now a.roster.now same (omega arith) made a.out.now w.recount.ensures.1,
    )

pub recount-requires : goal.recount-requires
recount-requires c =
    let r = c in
    let a = r.args in
    let same = r.read_files-read.ensures in
    (labels_few a.policy.now a.roster.now same (omega arith), labels_within a.policy.now a.roster.now same (omega arith))
