-- `desk::derive` meets its contract: the envelope's refusal first, then what `derive_read` answers.
use mathlib.Core.Path.{◌≡◌, sym, ◌∙◌}
use native.Mathlib.Omega.{arith}
use Rattle.envelope_file.proofs.Deriving.{refused_answer}
use Rattle.envelope_file.specs.Derive.{refused_derived}
use Rattle.desk.proofs.derive.Goals as goal

pub returns-then-read-ne0 : goal.returns-then-read-ne0
returns-then-read-ne0 c =
    let a = c.args in
    let read = c.read_envelope-read in
    let number : c.refuse.result ≡ refused_derived read.result.refusal = c.refuse.ensures in
    number ∙ sym (refused_answer a.envelope.now a.name.now read.result read.ensures (omega arith))
