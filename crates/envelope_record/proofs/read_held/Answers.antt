-- `envelope_record::read_held` meets its contract: each answer by the tests that led there.
use mathlib.Core.Bool.{true, false}
use mathlib.Core.Path.{◌≡◌, sym, ◌∙◌}
use native.Mathlib.Omega.{arith}
use Rattle.format.specs.Bytes.{same_bytes}
use Rattle.envelope_file.proofs.RecordTests.{held_refused, held_unlike, held_first, held_later}
use Rattle.envelope_file.proofs.Starts.{head_compared}
use Rattle.envelope_file.specs.File.{head_name, name_in}
use Rattle.envelope_record.proofs.read_held.Goals as goal

pub returns-then-number-ne0 : goal.returns-then-number-ne0
returns-then-number-ne0 c =
    let a = c.args.read.now in
    let r = c.name_refusal-number in
    sym (held_refused a.envelope.now a.count r.result r.ensures (omega arith))

pub returns-then-not-same_name : goal.returns-then-not-same_name
returns-then-not-same_name c =
    let b = c in
    let r = c.args.read.now in
    let file = r.envelope.now in
    let k = r.count in
    let same : same_bytes (name_in file k) (head_name file) ≡ false =
    sym (head_compared file k r.end r.here c.read_name.ensures c.read_name-head.ensures)
    ∙ sym c.same_name.ensures ∙ c.if-not-same_name.true
    in
    sym (held_unlike file k (sym b.name_refusal-number.ensures ∙ b.if-number-ne0.false) b.if-read-eq0.true same)

pub returns-else-not-same_name : goal.returns-else-not-same_name
returns-else-not-same_name c =
    let b = c in
    let r = c.args.read.now in
    let file = r.envelope.now in
    let k = r.count in
    let same : same_bytes (name_in file k) (head_name file) ≡ true =
    sym (head_compared file k r.end r.here c.read_name.ensures c.read_name-head.ensures)
    ∙ sym c.same_name.ensures ∙ c.if-not-same_name.false
    in
    sym (held_first file k (sym b.name_refusal-number.ensures ∙ b.if-number-ne0.false) b.if-read-eq0.true same)

pub returns-else-read-eq0 : goal.returns-else-read-eq0
returns-else-read-eq0 c =
    let a = c.args.read.now in
    let named = sym c.name_refusal-number.ensures ∙ c.if-number-ne0.false in
    sym (held_later a.envelope.now a.count named (omega arith))
