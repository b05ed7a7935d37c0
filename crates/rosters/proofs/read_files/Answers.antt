-- `rosters::read_files` meets its contract.
use native.Mathlib.Omega.{arith}
use Rattle.roster_answers.proofs.Files.{read_refused, stop_refused, both_read, policy_few, policy_within}
use Rattle.rosters.proofs.read_files.Goals as goal

pub returns-then-read-ne0 : goal.returns-then-read-ne0
returns-then-read-ne0 c =
    let p = c in
    let a = p.args in
    read_refused a.policy.now a.roster.now p.read_policy-read.ensures c.refuse.ensures (λ e. omega arith)

pub returns-then-stop-ne0 : goal.returns-then-stop-ne0
returns-then-stop-ne0 c =
    let r = c in
    let p = r in
    let a = p.args in
    stop_refused a.policy.now a.roster.now p.read_policy-read.ensures (omega arith) r.read_roster-stop.ensures c.refuse-then-stop-ne0.ensures (λ e. omega arith)

pub returns : goal.returns
returns c =
    let r = c in
    let p = r in
    let a = p.args in
    both_read a.policy.now a.roster.now p.read_policy-read.ensures (omega arith) r.read_roster-stop.ensures (omega arith)

pub read_roster-stop-requires : goal.read_roster-stop-requires
read_roster-stop-requires c =
    let p = c in
    let policy = p.args.policy.now in
    (policy_within policy p.read_policy-read.ensures, policy_few policy p.read_policy-read.ensures)
