-- `desk_calls::envelopes::derive` meets its contract: the envelope is the one that was read, or any if the call has failed.
use Prim.Native.Nat.{ℕ}
use mathlib.Core.List.{List, []}
use lib.ListN.{take}
use Rattle.std.proofs.Common.{Bor}
use Rattle.envelope_file.specs.Derive.{derived_of}
use Rattle.lines.specs.Lines.{hex_line}
use Rattle.outcomes.proofs.Ending.{said_printed}
use Rattle.outcomes.proofs.Reading.{over_done}
use Rattle.desk_calls.proofs.envelopes.derive.Goals as goal

pub returns : goal.returns
returns c =
    let name = take c.name_argument-length.result c.name_argument-length.new.name in
    let ended =
    over_done
    []
    (λ (file : Bor (List ℕ)). file.now)
    (λ file. (derived_of file name).refusal)
    (λ file. hex_line (derived_of file name).key)
    _
    c.derive-ended.result
    c.derive-ended.ensures
    in
    (ended.0, name, said_printed _ _ c.report.ensures ended.1)
