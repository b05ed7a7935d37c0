-- `desk::derive_read` meets its contract: the record that was asked for is among those read, and what the search leads to is the answer.
use mathlib.Core.Path.{sym, ap, ◌∙◌}
use Rattle.envelope_file.proofs.Deriving.{read_derived, asked_below}
use Rattle.envelope_file.specs.Derive.{on_found}
use Rattle.desk.proofs.derive_read.Goals as goal

pub derive_record-requires : goal.derive_record-requires
derive_record-requires c =
    let r = c.all-records.result.front in
    asked_below r.envelope.now r.count c.args.name.now c.in-Some.k (sym c.in-Some.ensures)

pub returns-in-Some : goal.returns-in-Some
returns-in-Some c =
    let a = c.args in
    let all = c.all-records.ensures in
    let found = rw (all.0, all.1) at c.in-Some.ensures in
    rw all.0 at c.derive_record.ensures ∙ ap (on_found a.envelope.now) found ∙ read_derived a.envelope.now a.read c.requires.0 c.requires.1 a.name.now

pub returns-in-None : goal.returns-in-None
returns-in-None c =
    let a = c.args in
    let all = c.all-records.ensures in
    let found = rw (all.0, all.1) at c.in-None.ensures in
    c.refuse.ensures ∙ ap (on_found a.envelope.now) found ∙ read_derived a.envelope.now a.read c.requires.0 c.requires.1 a.name.now
