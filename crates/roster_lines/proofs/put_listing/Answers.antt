-- `roster_lines::put_listing` meets its contract: the lines of accounts, those of labels, and the last.
use native.Mathlib.Omega.{arith}
use Rattle.buffers.proofs.Writes.{put_next}
use Rattle.roster_answers.proofs.RosterParts.{listing_parts}
use Rattle.roster_answers.proofs.RosterWidths.{parts_short}
use Rattle.roster_lines.proofs.Lines.{placed_named}
use Rattle.roster_lines.proofs.put_listing.Goals as goal

pub put_accounts-behind-requires : goal.put_accounts-behind-requires
put_accounts-behind-requires c =
    let s = c in
    let a = s.args in
    let short = parts_short a.policy.now a.roster a.labels s.requires.0 a.counts s.requires.3 in
    (placed_named a.policy.now a.labels a.roster s.requires.1 s.requires.2, omega arith)

pub put_counts-end-requires : goal.put_counts-end-requires
put_counts-end-requires c =
    let s = c in
    let a = s.args in
    let short = parts_short a.policy.now a.roster a.labels s.requires.0 a.counts s.requires.3 in
    (s.requires.0, s.requires.1, omega arith)

pub put_total-requires : goal.put_total-requires
put_total-requires c =
    let s = c in
    let a = s.args in
    let short = parts_short a.policy.now a.roster a.labels s.requires.0 a.counts s.requires.3 in
    (s.requires.0, omega arith)

pub returns : goal.returns
returns c =
    let t = c in
    let l = t in
    let n = l in
    let s = n in
    let a = s.args in
    rw (listing_parts a.policy.now a.labels a.roster a.counts s.requires.3 s.requires.0)
    (put_next (put_next n.put_accounts-behind.ensures l.put_counts-end.ensures) t.put_total.ensures)
