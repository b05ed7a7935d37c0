-- `issuer_calls::asked` meets its contract: it ends as what it calls.
use Prim.Native.Nat.{ℕ}
use mathlib.Core.List.{List}
use mathlib.Core.Path.{ap}
use Rattle.answers.specs.Version.{version_line}
use Rattle.outcomes.proofs.Ending.{said_as}
use Rattle.issuer_calls.specs.Ran.{performed, versioned}
use Rattle.issuer_calls.proofs.asked.Goals as goal

pub returns-then-is_word : goal.returns-then-is_word
returns-then-is_word c =
    let told = c.answer_version.ensures in
    let name = c.requires in
    versioned told.0 (said_as 0 c.answer_version.result (ap (λ (program : List ℕ). version_line program told.0) name) told.1)

pub returns : goal.returns
returns c = performed _ c.call.ensures.performed
