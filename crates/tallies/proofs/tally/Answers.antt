-- `tallies::tally` meets its contract. Invariant: the accounts so far are counted.
use Rattle.std.proofs.Common.{◌≡◌, ℕ, ◌+◌, sym, ap, ◌∙◌, Option, None, Some, arith}
use Rattle.lists.proofs.Tables.{get_d_listed}
use Rattle.lists.specs.Tables.{listed}
use Rattle.tallies.proofs.Turns.{count_short, none_counted, counted_there, counted_nowhere, all_counted}
use Rattle.tallies.specs.Tally.{count_to}
use Rattle.tallies.proofs.tally.Goals as goal
use Rattle.tallies.proofs.tally.Goals.{in-Some+then-l-lt64, in-Some+else-l-lt64, in_default}

pub loop-account-init : goal.loop-account-init
loop-account-init c = none_counted c.args.roster

pub overflow_add-counts : goal.overflow_add-counts
overflow_add-counts c =
    let l = c.loop-account in
    let counted = count_to c.args.roster (l.account-index + 1) in
    rw l.invariant (rw (get_d_listed counted 64 c.in-Some.l 0 (omega arith)) (omega (arith, count_short c.args.roster (l.account-index + 1) c.in-Some.l)))

pub loop-account-preserved : goal.loop-account-preserved
loop-account-preserved c =
    let l = c.loop-account in
    let roster = c.args.roster in
    let below = c.loop-account-test.true in
    elim c.match-label_of.branch [
      | in-Some+then-l-lt64 w ↦ rw (w.counts-is, l.invariant) (counted_there roster l.account-index below (sym w.in-Some.ensures) (omega arith))
      | in-Some+else-l-lt64 w ↦ w.counts-is ∙ l.invariant ∙ counted_nowhere roster l.account-index below (λ m e. let same : w.in-Some.l ≡ m = cc (w.in-Some.ensures) in omega arith)
      | in_default w ↦ w.counts-is ∙ l.invariant ∙ counted_nowhere roster l.account-index below (λ m e. let no : ◌≡◌ {A = Option ℕ} None (Some m) = w.in_default.ensures ∙ e in absurd (cc))
    ]

pub returns : goal.returns
returns c =
    let l = c.loop-account in
    let end : l.account-index ≡ 4096 = omega arith in
    l.invariant ∙ ap (λ (i : ℕ). listed (count_to c.args.roster (i + 1)) 64) end ∙ all_counted c.args.roster
