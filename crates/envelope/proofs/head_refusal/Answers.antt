-- `envelope::head_refusal` meets its contract: each answer by the tests that led there.
use mathlib.Core.Path.{sym, ◌∙◌}
use native.Mathlib.Omega.{arith}
use Rattle.envelope_file.proofs.Reading.{head_short, head_foreign, head_nobody, head_passed}
use Rattle.envelope.proofs.head_refusal.Goals as goal

pub returns-then-envelope-lt12 : goal.returns-then-envelope-lt12
returns-then-envelope-lt12 c = sym (head_short c.args.envelope.now (omega arith))

pub returns-then-not-marked : goal.returns-then-not-marked
returns-then-not-marked c =
    let file = c.args.envelope.now in
    sym (head_foreign file (omega arith) (sym c.marked.ensures ∙ c.if-not-marked.true))

pub returns-then-read_number-eq0 : goal.returns-then-read_number-eq0
returns-then-read_number-eq0 c =
    let file = c.args.envelope.now in
    let mark = sym c.marked.ensures ∙ c.if-not-marked.false in
    sym (head_nobody file (omega arith) mark (sym c.read_number.ensures ∙ c.if-read_number-eq0.true))

pub returns : goal.returns
returns c =
    let file = c.args.envelope.now in
    let mark = sym c.marked.ensures ∙ c.if-not-marked.false in
    sym (head_passed file (omega arith) mark (λ z. c.if-read_number-eq0.false (c.read_number.ensures ∙ z)))
