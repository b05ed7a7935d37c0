-- `envelope_names::name_refusal` meets its contract: each answer by the tests that led there.
use Rattle.std.specs.Prelude.{None, Some}
use mathlib.Core.Bool.{true, false}
use mathlib.Core.Path.{◌≡◌, sym, ap, ◌∙◌}
use native.Mathlib.Omega.{arith}
use Rattle.format.specs.Names.{well_formed}
use Rattle.envelope_file.proofs.RecordTests.{name_many, name_unformed, name_carried, name_new}
use Rattle.envelope_file.proofs.Starts.{name_there}
use Rattle.envelope_file.specs.File.{name_in, record_named}
use Rattle.envelope_names.proofs.name_refusal.Goals as goal

pub returns-then-read-ge64 : goal.returns-then-read-ge64
returns-then-read-ge64 c =
    let r = c.args.read.now in
    sym (name_many r.envelope.now r.count (omega arith))

pub returns-then-not-well_formed : goal.returns-then-not-well_formed
returns-then-not-well_formed c =
    let r = c.args.read.now in
    let file = r.envelope.now in
    let k = r.count in
    let name : c.read_name-name.result ≡ name_in file k =
    name_there file k r.end r.here c.read_name-name.ensures in
    let formed : well_formed (name_in file k) ≡ false =
    ap well_formed (sym name) ∙ sym c.well_formed-2.ensures ∙ c.if-not-well_formed.true in
    sym (name_unformed file k (omega arith) formed)

pub returns-in-Some : goal.returns-in-Some
returns-in-Some c =
    let b = c in
    let r = c.args.read.now in
    let file = r.envelope.now in
    let k = r.count in
    let told = c.in-Some in
    let name : b.read_name-name.result ≡ name_in file k =
    name_there file k r.end r.here b.read_name-name.ensures in
    let formed : well_formed (name_in file k) ≡ true =
    ap well_formed (sym name) ∙ sym b.well_formed-2.ensures ∙ b.if-not-well_formed.false in
    let found : record_named file k (name_in file k) ≡ Some told.field-0 =
    ap (record_named file k) (sym name) ∙ sym told.ensures in
    sym (name_carried file k (omega arith) formed told.field-0 found)

pub returns-in-None : goal.returns-in-None
returns-in-None c =
    let b = c in
    let r = c.args.read.now in
    let file = r.envelope.now in
    let k = r.count in
    let name : b.read_name-name.result ≡ name_in file k =
    name_there file k r.end r.here b.read_name-name.ensures in
    let formed : well_formed (name_in file k) ≡ true =
    ap well_formed (sym name) ∙ sym b.well_formed-2.ensures ∙ b.if-not-well_formed.false in
    let found : record_named file k (name_in file k) ≡ None =
    ap (record_named file k) (sym name) ∙ sym c.in-None.ensures in
    sym (name_new file k (omega arith) formed found)
