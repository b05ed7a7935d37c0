-- `faults::second_top` meets its contract: eight spaces after a refused record, else the label that the search found.
use mathlib.Core.Path.{sym, ◌∙◌}
use Rattle.faults.proofs.Answers.{stop_few, second_refused, second_inside, second_found}
use Rattle.faults.proofs.second_top.Goals as goal

pub returns-then-stop-ne0 : goal.returns-then-stop-ne0
returns-then-stop-ne0 c =
    let s = c in
    sym (second_refused s.args.policy.now s.read_to_stop-stop.ensures c.if-stop-ne0.true)

pub first_no_lower-found-requires : goal.first_no_lower-found-requires
first_no_lower-found-requires c =
    let s = c in
    stop_few s.args.policy.now s.read_to_stop-stop.ensures

pub name_found-requires : goal.name_found-requires
name_found-requires c =
    let s = c in
    second_inside s.args.policy.now s.read_to_stop-stop.ensures c.first_no_lower-found.ensures

pub returns : goal.returns
returns c =
    let f = c in
    let s = f in
    c.name_found.ensures
    ∙ sym (second_found s.args.policy.now s.read_to_stop-stop.ensures f.first_no_lower-found.ensures f.if-stop-ne0.false)
