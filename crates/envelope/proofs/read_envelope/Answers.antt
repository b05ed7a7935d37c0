-- `envelope::read_envelope` meets its contract: the header's refusal, or what the records say.
use mathlib.Core.Path.{◌≡◌, sym, ap, ◌∙◌}
use native.Mathlib.Omega.{arith}
use Rattle.envelope_file.proofs.Reading.{head_long, contents_refused, contents_read, settled_refused, settled_read}
use Rattle.envelope_file.specs.Whole.{refused}
use Rattle.envelope.proofs.read_envelope.Goals as goal

pub returns-then-number-ne0 : goal.returns-then-number-ne0
returns-then-number-ne0 c =
    let file = c.args.envelope.now in
    let number = c.head_refusal-number.ensures in
    c.refused_contents.ensures ∙ ap refused number ∙ sym (contents_refused file (omega (arith, number)))

pub read_records-read-requires : goal.read_records-read-requires
read_records-read-requires c =
    head_long c.args.envelope.now (sym c.head_refusal-number.ensures ∙ c.if-number-ne0.false)

pub returns-then-read-ne0 : goal.returns-then-read-ne0
returns-then-read-ne0 c =
    let b = c in
    let file = b.args.envelope.now in
    let read = b.read_records-read in
    let number : c.refused_contents-then-read-ne0.result ≡ refused read.result.refusal = c.refused_contents-then-read-ne0.ensures in
    number ∙ sym (settled_refused read.result c.if-read-ne0.true) ∙ read.ensures.0
    ∙ sym (contents_read file (sym b.head_refusal-number.ensures ∙ b.if-number-ne0.false))

pub returns : goal.returns
returns c =
    let b = c in
    let file = b.args.envelope.now in
    let read = b.read_records-read in
    sym (settled_read read.result c.if-read-ne0.false) ∙ read.ensures.0
    ∙ sym (contents_read file (sym b.head_refusal-number.ensures ∙ b.if-number-ne0.false))
