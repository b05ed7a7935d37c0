-- `roster_text::read_roster` meets its contract.
use native.Mathlib.Omega.{arith}
use Rattle.roster_answers.proofs.Files.{standings_refused, standings_read}
use Rattle.roster_answers.specs.Standings.{standings_of}
use Rattle.roster_text.proofs.read_roster.Goals as goal

pub returns-then-read-ne0 : goal.returns-then-read-ne0
returns-then-read-ne0 c =
    let r = c in
    let a = r.args in
    standings_refused a.policy.now a.roster.now r.read_files-read.ensures c.refused.ensures (λ e. omega arith)

pub returns : goal.returns
unfolding standings_of
returns c =
    let s = c in
    let t = s in
    let r = t in
    let a = r.args in
    rw (t.tally.ensures, s.states.ensures, c.places.ensures) (standings_read a.policy.now a.roster.now r.read_files-read.ensures (omega arith))
