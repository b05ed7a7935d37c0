-- `envelope_labels::read_labels` meets its contract: the envelope's refusal, or its account and the names of its records.
use mathlib.Core.Path.{◌≡◌, sym, ◌∙◌}
use native.Mathlib.Omega.{arith}
use Rattle.envelope_file.proofs.Labelled.{refused_answer, header_whole, read_answer}
use Rattle.envelope_file.specs.Labels.{refused_labels}
use Rattle.envelope_labels.proofs.read_labels.Goals as goal

pub returns-then-read-ne0 : goal.returns-then-read-ne0
returns-then-read-ne0 c =
    let file = c.args.envelope.now in
    let read = c.read_envelope-read in
    let answer : c.refused_labels.result ≡ refused_labels read.result.refusal = c.refused_labels.ensures in
    answer ∙ sym (refused_answer file read.result read.ensures (omega arith))

pub read_number-account-requires : goal.read_number-account-requires
read_number-account-requires c =
    let file = c.args.envelope.now in
    let read = c.read_envelope-read in
    omega (arith, header_whole file read.result read.ensures c.if-read-ne0.false)

pub returns : goal.returns
returns c =
    let file = c.args.envelope.now in
    let read = c.read_envelope-read in
    let all = c.all-records.ensures in
    let names = rw (all.0, all.1) at c.read_names.ensures in
    rw all.1 (read_answer file read.result read.ensures c.if-read-ne0.false c.read_number-account.ensures names)
