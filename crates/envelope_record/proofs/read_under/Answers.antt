-- `envelope_record::read_under` meets its contract: each answer by the tests that led there.
use mathlib.Core.Path.{sym, ap, ◌∙◌}
use native.Mathlib.Omega.{arith}
use Rattle.envelope_file.proofs.RecordTests.{under_refused, under_first, under_late, under_read}
use Rattle.envelope_file.proofs.Starts.{place_there}
use Rattle.envelope_file.specs.declared.Kind.TheVariants.{Under}
use Rattle.envelope_record.proofs.read_under.Goals as goal

pub returns-then-number-ne0 : goal.returns-then-number-ne0
returns-then-number-ne0 c =
    let a = c.args.read.now in
    let r = c.name_refusal-number in
    sym (under_refused a.envelope.now a.count r.result r.ensures (omega arith))

pub returns-then-read-eq0 : goal.returns-then-read-eq0
returns-then-read-eq0 c =
    let a = c.args.read.now in
    let named = sym c.name_refusal-number.ensures ∙ c.if-number-ne0.false in
    sym (under_first a.envelope.now a.count named c.if-read-eq0.true)

pub returns-then-read-from : goal.returns-then-read-from
returns-then-read-from c =
    let b = c in
    let r = c.args.read.now in
    let file = r.envelope.now in
    let k = r.count in
    let place = place_there file k r.end r.here in
    sym (under_late file k (sym b.name_refusal-number.ensures ∙ b.if-number-ne0.false) (omega arith) (omega (arith, place)))

pub returns : goal.returns
returns c =
    let b = c in
    let r = c.args.read.now in
    let file = r.envelope.now in
    let k = r.count in
    let place = place_there file k r.end r.here in
    ap Under place
    ∙ sym (under_read file k (sym b.name_refusal-number.ensures ∙ b.if-number-ne0.false) (omega arith) (omega (arith, place)))
