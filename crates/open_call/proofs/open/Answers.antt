-- `open_call::open` meets its contract: the files are those that were read, or any if the call has failed.
use Prim.Native.Nat.{ℕ}
use mathlib.Core.List.{List, []}
use Rattle.std.proofs.Common.{Bor}
use Rattle.lines.specs.Lines.{opened_text}
use Rattle.open_answers.specs.Open.{opened_of}
use Rattle.outcomes.proofs.Reading.{over_some}
use Rattle.open_call.proofs.open.Goals as goal

pub returns : goal.returns
returns c =
    let ended =
    over_some
    ([], [])
    (λ (files : Bor (List ℕ) × Bor (List ℕ)). (files.0.now, files.1.now))
    (λ (files : List ℕ × List ℕ). (opened_of files.0 files.1 32768).refusal)
    (λ (files : List ℕ × List ℕ). opened_text (opened_of files.0 files.1 32768).length)
    _
    c.open-printed.result
    c.open-printed.ensures
    in
    rw c.report.ensures (ended.0.0, ended.0.1, ended.1)
