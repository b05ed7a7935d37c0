-- `issuer_calls::plan_calls::weigh` meets its contract: the files are those that were read, or any if the call has failed.
use Prim.Native.Nat.{ℕ}
use mathlib.Core.List.{List, []}
use Rattle.std.proofs.Common.{Bor}
use Rattle.outcomes.proofs.Ending.{said_printed}
use Rattle.outcomes.proofs.Reading.{over_done}
use Rattle.plan_answers.specs.Weighing.{weigh_of}
use Rattle.weigh_lines.specs.Weighed.{weighed_text}
use Rattle.issuer_calls.proofs.plan_calls.weigh.Goals as goal

pub returns : goal.returns
returns c =
    let ended =
    over_done
    ([], [])
    (λ (files : Bor (List ℕ) × Bor (List ℕ)). (files.0.now, files.1.now))
    (λ (files : List ℕ × List ℕ). (weigh_of files.0 files.1).refusal)
    (λ (files : List ℕ × List ℕ). weighed_text (weigh_of files.0 files.1).total (weigh_of files.0 files.1).least)
    _
    c.weigh.result
    c.weigh.ensures
    in
    (ended.0.0, ended.0.1, said_printed _ _ c.of_tree.ensures ended.1)
