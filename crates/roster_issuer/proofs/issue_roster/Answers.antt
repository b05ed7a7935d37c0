-- `roster_issuer::issue_roster` meets its contract.
use Prim.Native.Nat.{ℕ}
use mathlib.Core.List.{List}
use mathlib.Core.Path.{◌≡◌, refl, ap, ◌∙◌}
use native.Mathlib.Omega.{arith}
use lib.ListN.{length, take, replicate}
use Rattle.buffers.specs.Handed.{refused_written}
use Rattle.roster_answers.proofs.Counted.{counted_number, front_size, front_within, answered_on}
use Rattle.roster_answers.proofs.Files.{files_refused, files_accepted, rostered_roster, labels_few, labels_within, counts_put, unless_given, unless_left}
use Rattle.roster_answers.specs.Counted.{counted_written, counted_after}
use Rattle.roster_answers.specs.Issue.{standing_issued, standing_after, roster_issued, roster_envelope_after}
use Rattle.roster_answers.specs.Rostered.{roster_of}
use Rattle.roster_file.specs.Machine.{standing_of}
use Rattle.roster_file.specs.declared.Roster.{Roster}
use Rattle.roster_file.specs.declared.Standing.{Standing}
use Rattle.roster_issuer.proofs.issue_roster.Goals as goal

pub returns-then-read-ne0 : goal.returns-then-read-ne0
unfolding roster_issued roster_envelope_after
returns-then-read-ne0 c =
    let r = c in
    let a = r.args in
    let s = standing_of (roster_of a.policy.now a.roster.now) a.account in
    let same = r.read_files-read.ensures in (
      files_refused a.policy.now a.roster.now same refused_written
          (λ (file : List ℕ). standing_issued file s a.name.now a.account a.root.now (length a.envelope.now))
          c.refuse.ensures (λ e. omega arith),
      files_refused a.policy.now a.roster.now same (λ (n : ℕ). a.envelope.now)
          (λ (file : List ℕ). standing_after file s a.name.now a.account a.root.now a.envelope.now)
          refl (λ e. omega arith),
    )

pub returns : goal.returns
unfolding roster_issued roster_envelope_after counted_written counted_after
returns c =
    let i = c in
    let o = i in
    let w = o in
    let t = w in
    let r = t in
    let a = r.args in
    let p = a.policy.now in
    let q = a.roster.now in
    let same = r.read_files-read.ensures in
    let made = counts_put p q same (omega arith) t.tally-counts.ensures in
    let written = unless_given p q same (omega arith) made 2816 w.recount-written.ensures.0 in
    let left = unless_left p q same (omega arith) made (replicate 2816 0) w.recount-written.ensures.1 in
    let none = counted_number p q written ∙ files_accepted p q same (omega arith) in
    let s = standing_of (roster_of p q) a.account in
    let stands : o.standing_of-standing.result ≡ s = o.standing_of-standing.ensures ∙ ap (λ (x : Roster). standing_of x a.account) (rostered_roster p q same (omega arith)) in (
      answered_on p q written none left refused_written
          (λ (file : List ℕ). standing_issued file s a.name.now a.account a.root.now (length a.envelope.now))
          (i.issue_standing.ensures.0 ∙ ap (λ (x : Standing). standing_issued (take w.recount-written.result.length w.recount-written.new.out) x a.name.now a.account a.root.now (length a.envelope.now)) stands),
      answered_on p q written none left (λ (n : ℕ). a.envelope.now)
          (λ (file : List ℕ). standing_after file s a.name.now a.account a.root.now a.envelope.now)
          (i.issue_standing.ensures.1 ∙ ap (λ (x : Standing). standing_after (take w.recount-written.result.length w.recount-written.new.out) x a.name.now a.account a.root.now a.envelope.now) stands),
    )

pub recount-written-requires : goal.recount-written-requires
recount-written-requires c =
    let r = c in
    let a = r.args in
    let same = r.read_files-read.ensures in
    (labels_few a.policy.now a.roster.now same (omega arith), labels_within a.policy.now a.roster.now same (omega arith))

pub slice_bounds-counted-end : goal.slice_bounds-counted-end
unfolding counted_written counted_after
slice_bounds-counted-end c =
    let w = c in
    let t = w in
    let r = t in
    let a = r.args in
    let p = a.policy.now in
    let q = a.roster.now in
    let same = r.read_files-read.ensures in
    let made = counts_put p q same (omega arith) t.tally-counts.ensures in
    let written = unless_given p q same (omega arith) made 2816 w.recount-written.ensures.0 in
    let left = unless_left p q same (omega arith) made (replicate 2816 0) w.recount-written.ensures.1 in
    let none = counted_number p q written ∙ files_accepted p q same (omega arith) in
    front_within p q written none left

pub slice_bounds-issue_standing-end : goal.slice_bounds-issue_standing-end
unfolding counted_written counted_after
slice_bounds-issue_standing-end c =
    let w = c in
    let t = w in
    let r = t in
    let a = r.args in
    let p = a.policy.now in
    let q = a.roster.now in
    let same = r.read_files-read.ensures in
    let made = counts_put p q same (omega arith) t.tally-counts.ensures in
    let written = unless_given p q same (omega arith) made 2816 w.recount-written.ensures.0 in
    let left = unless_left p q same (omega arith) made (replicate 2816 0) w.recount-written.ensures.1 in
    let none = counted_number p q written ∙ files_accepted p q same (omega arith) in
    front_size p q written none left
