-- `opening::open` meets its contract: the envelope's refusal, 22, 20, or what is answered under the label's key.
use mathlib.Core.Path.{sym, ◌∙◌}
use native.Mathlib.Omega.{arith}
use Rattle.open_answers.proofs.Opening.{envelope_refused, form_refused, label_refused, opened_under}
use Rattle.sealed_file.proofs.Rows.{form_passed}
use Rattle.sealed_file.specs.Sealed.{name_in}
use Rattle.opening.proofs.open.Goals as goal

pub returns-then-read-ne0 : goal.returns-then-read-ne0
returns-then-read-ne0 c =
    let a = c.args in
    envelope_refused a.envelope.now a.file.now a.out.now c.read_envelope-read.ensures (omega arith) c.refuse.ensures

pub returns-then-form-ne0 : goal.returns-then-form-ne0
returns-then-form-ne0 c =
    let a = c.args in
    form_refused a.envelope.now a.file.now a.out.now c.read_envelope-read.ensures c.if-read-ne0.false c.form_refusal-form.ensures (omega arith) c.refuse-then-form-ne0.ensures

pub slice_bounds-derive_read-end : goal.slice_bounds-derive_read-end
slice_bounds-derive_read-end c =
    let s = form_passed c.args.file.now (sym c.form_refusal-form.ensures ∙ c.if-form-ne0.false) in
    omega (arith, s.enough)

pub returns-then-derived-ne0 : goal.returns-then-derived-ne0
unfolding name_in
returns-then-derived-ne0 c =
    let a = c.args in
    let read = c.read_envelope-read in
    let derived = c.derive_read-derived.ensures in
    label_refused a.envelope.now a.file.now a.out.now read.ensures c.if-read-ne0.false c.form_refusal-form.ensures c.if-form-ne0.false derived (omega arith) c.refuse-then-derived-ne0.ensures

pub open_under-requires : goal.open_under-requires
open_under-requires c = form_passed c.args.file.now (sym c.form_refusal-form.ensures ∙ c.if-form-ne0.false)

pub returns : goal.returns
unfolding name_in
returns c =
    let a = c.args in
    let read = c.read_envelope-read in
    let derived = c.derive_read-derived.ensures in
    let opened = c.open_under.ensures in
    opened_under a.envelope.now a.file.now a.out.now read.ensures c.if-read-ne0.false c.form_refusal-form.ensures c.if-form-ne0.false derived c.if-derived-ne0.false opened.0 opened.1
