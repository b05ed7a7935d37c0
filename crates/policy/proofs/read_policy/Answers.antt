-- `policy::read_policy` meets its contract: the empty file, a refused record, a label that is not placed, or what was read.
use mathlib.Core.Path.{sym, ◌∙◌}
use Rattle.policy.proofs.Ends.{no_bytes, refused_answer, unplaced_answer, accepted_answer}
use Rattle.policy_file.proofs.Stopping.{stop_bounds}
use Rattle.policy.proofs.read_policy.Goals as goal

pub returns-then-is_empty : goal.returns-then-is_empty
returns-then-is_empty c = c.refuse.ensures ∙ sym (no_bytes c.args.policy.now (sym c.is_empty.ensures ∙ c.if-is_empty.true))

pub returns-then-read-ne0 : goal.returns-then-read-ne0
returns-then-read-ne0 c =
    let file = c.args.policy.now in
    let r = c.read_to_stop-read in
    c.refuse-then-read-ne0.ensures ∙ sym (refused_answer file (sym c.is_empty.ensures ∙ c.if-is_empty.false) r.result r.ensures c.if-read-ne0.true)

pub all_placed-requires : goal.all_placed-requires
all_placed-requires c =
    let h = stop_bounds c.args.policy.now in
    rw c.read_to_stop-read.ensures (h.0, h.1)

pub returns-then-not-all_placed : goal.returns-then-not-all_placed
returns-then-not-all_placed c =
    let file = c.args.policy.now in
    let r = c.read_to_stop-read in
    let none = sym c.all_placed.ensures ∙ c.if-not-all_placed.true in
    c.refuse-then-not-all_placed.ensures
    ∙ sym (unplaced_answer file (sym c.is_empty.ensures ∙ c.if-is_empty.false) r.result r.ensures c.if-read-ne0.false none)

pub returns : goal.returns
returns c =
    let file = c.args.policy.now in
    let r = c.read_to_stop-read in
    let all = sym c.all_placed.ensures ∙ c.if-not-all_placed.false in
    sym (accepted_answer file (sym c.is_empty.ensures ∙ c.if-is_empty.false) r.result r.ensures c.if-read-ne0.false all)
