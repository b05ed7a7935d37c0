-- `roster_stops::records_read` meets its contract.
use native.Mathlib.Omega.{arith}
use Rattle.roster_answers.proofs.Files.{policy_few, policy_within}
use Rattle.roster_stops.proofs.Counting.{policy_refused, stop_counted}
use Rattle.roster_stops.proofs.records_read.Goals as goal

pub returns-then-read-ne0 : goal.returns-then-read-ne0
returns-then-read-ne0 c =
    let p = c in
    let a = p.args in
    policy_refused a.policy.now a.roster.now p.read_policy-read.ensures (λ z. omega arith)

pub returns : goal.returns
returns c =
    let r = c in
    let p = r in
    let a = p.args in
    stop_counted a.policy.now a.roster.now p.read_policy-read.ensures (omega arith) r.read_roster-stop.ensures c.count_records.ensures

pub read_roster-stop-requires : goal.read_roster-stop-requires
read_roster-stop-requires c =
    let p = c in
    let policy = p.args.policy.now in
    (policy_within policy p.read_policy-read.ensures, policy_few policy p.read_policy-read.ensures)

pub count_records-requires : goal.count_records-requires
count_records-requires c =
    let p = c in
    let policy = p.args.policy.now in
    (policy_within policy p.read_policy-read.ensures, policy_few policy p.read_policy-read.ensures)
