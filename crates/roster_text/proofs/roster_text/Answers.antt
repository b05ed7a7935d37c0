-- `roster_text::roster_text` meets its contract.
use native.Mathlib.Omega.{arith}
use lib.ListN.{length}
use Rattle.buffers.proofs.Handed.{front_handed, front_left}
use Rattle.roster_answers.proofs.Files.{unless_no, unless_kept, labels_few, labels_within, accounts_placed, listing_made, unless_given, unless_left}
use Rattle.roster_answers.specs.RosterText.{roster_listing, roster_text, roster_written, roster_after}
use Rattle.roster_text.proofs.roster_text.Goals as goal

pub returns-then-read-ne0 : goal.returns-then-read-ne0
unfolding roster_written roster_after
returns-then-read-ne0 c =
    let r = c in
    let a = r.args in
    let same = r.read_files-read.ensures in
    let t = roster_text a.policy.now a.roster.now in (
      unless_no a.policy.now a.roster.now same c.refuse.ensures (λ e. omega arith) t (length a.out.now),
      unless_kept a.policy.now a.roster.now same (λ e. omega arith) t a.out.now,
    )

pub put_listing-length-requires : goal.put_listing-length-requires
put_listing-length-requires c =
    let t = c in
    let r = t in
    let a = r.args in
    let p = a.policy.now in
    let q = a.roster.now in
    let same = r.read_files-read.ensures in
    (labels_few p q same (omega arith), labels_within p q same (omega arith), accounts_placed p q same (omega arith), t.tally-counts.ensures, omega arith)

pub returns : goal.returns
unfolding roster_written roster_after
returns c =
    let h = c in
    let l = h in
    let r = l in
    let a = r.args in
    let p = a.policy.now in
    let q = a.roster.now in
    let same = r.read_files-read.ensures in
    let out = a.out.now in
    let s = roster_listing p r.read_files-read.result.labels r.read_files-read.result.roster in
    let made = listing_made p q same (omega arith) in (
      unless_given p q same (omega arith) made (length out) (front_handed {s = s} l.put_listing-length.ensures (length out) h.hand_out.ensures.0),
      unless_left p q same (omega arith) made out (front_left {s = s} l.put_listing-length.ensures out h.hand_out.ensures.1),
    )
