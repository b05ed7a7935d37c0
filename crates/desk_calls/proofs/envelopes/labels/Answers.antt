-- `desk_calls::envelopes::labels` meets its contract: the envelope is the one that was read, or any if the call has failed.
use Prim.Native.Nat.{ℕ}
use mathlib.Core.List.{List, []}
use Rattle.std.proofs.Common.{Bor}
use Rattle.envelope_file.specs.Labels.{envelope_labels}
use Rattle.label_lines.specs.Labels.{labels_text}
use Rattle.outcomes.proofs.Ending.{said_printed}
use Rattle.outcomes.proofs.Reading.{over_done}
use Rattle.desk_calls.proofs.envelopes.labels.Goals as goal

pub returns : goal.returns
returns c =
    let ended =
    over_done
    []
    (λ (file : Bor (List ℕ)). file.now)
    (λ file. (envelope_labels file).refusal)
    (λ file. labels_text (envelope_labels file).account (envelope_labels file).names (envelope_labels file).labels)
    _
    c.labels.result
    c.labels.ensures
    in
    (ended.0, said_printed _ _ c.report.ensures ended.1)
