-- `envelope::records_read` meets its contract: none after a header that is refused, else those counted.
use mathlib.Core.Path.{sym, ◌∙◌}
use native.Mathlib.Omega.{arith}
use Rattle.envelope_file.proofs.Reading.{head_long, none_counted, all_counted}
use Rattle.envelope.proofs.records_read.Goals as goal

pub returns-then-head_refusal-ne0 : goal.returns-then-head_refusal-ne0
returns-then-head_refusal-ne0 c =
    let file = c.args.envelope.now in
    sym (none_counted file (omega (arith, c.head_refusal.ensures)))

pub read_records-read-requires : goal.read_records-read-requires
read_records-read-requires c =
    head_long c.args.envelope.now (sym c.head_refusal.ensures ∙ c.if-head_refusal-ne0.false)

pub returns : goal.returns
returns c =
    let b = c in
    let file = b.args.envelope.now in
    c.read_records-read.ensures.1 ∙ sym (all_counted file (sym b.head_refusal.ensures ∙ c.if-head_refusal-ne0.false))
