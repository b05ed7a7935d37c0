-- `label_record::read_label` meets its contract: each answer by the tests that led there.
use Rattle.std.specs.Prelude.{None, Some}
use mathlib.Core.Bool.{true, false}
use mathlib.Core.Path.{◌≡◌, sym, ◌∙◌}
use native.Mathlib.Omega.{arith}
use Rattle.format.specs.Names.{well_formed}
use Rattle.label_record.proofs.OneLabel.{label_many, label_unformed, label_carried, label_new}
use Rattle.policy_file.specs.File.{name_of, count_of, label_named}
use Rattle.policy_file.specs.Record.{with_name}
use Rattle.label_record.proofs.read_label.Goals as goal

pub returns-then-labels-ge64 : goal.returns-then-labels-ge64
unfolding with_name
returns-then-labels-ge64 c =
    let a = c.args in
    rw (label_many a.policy.now a.labels (omega arith)) c.unnamed.ensures

pub returns-then-not-well_formed : goal.returns-then-not-well_formed
unfolding with_name name_of
returns-then-not-well_formed c =
    let a = c.args in
    let formed : well_formed (name_of a.policy.now a.labels) ≡ false =
    rw (← c.read_name-name.ensures)
    (sym c.well_formed-2.ensures ∙ c.if-not-well_formed.true)
    in
    rw (label_unformed a.policy.now a.labels (omega arith) formed) c.unnamed-then-not-well_formed.ensures

pub returns-in-Some : goal.returns-in-Some
unfolding with_name name_of
returns-in-Some c =
    let a = c.args in
    let formed : well_formed (name_of a.policy.now a.labels) ≡ true =
    rw (← c.read_name-name.ensures)
    (sym c.well_formed-2.ensures ∙ c.if-not-well_formed.false)
    in
    let found : label_named a.policy.now a.labels (name_of a.policy.now a.labels) ≡ Some c.in-Some.field-0 =
    rw (← c.read_name-name.ensures)
    (sym c.in-Some.ensures)
    in
    rw (label_carried a.policy.now a.labels (omega arith) formed c.in-Some.field-0 found)
    c.unnamed-in-Some.ensures

pub returns-in-None : goal.returns-in-None
unfolding with_name name_of count_of
returns-in-None c =
    let a = c.args in
    let formed : well_formed (name_of a.policy.now a.labels) ≡ true =
    rw (← c.read_name-name.ensures)
    (sym c.well_formed-2.ensures ∙ c.if-not-well_formed.false)
    in
    let found : label_named a.policy.now a.labels (name_of a.policy.now a.labels) ≡ None =
    rw (← c.read_name-name.ensures)
    (sym c.in-None.ensures)
    in
    rw (
      label_new a.policy.now a.labels (omega arith) formed found,
      c.read_name-name.ensures,
      c.read_number.ensures,
    )
