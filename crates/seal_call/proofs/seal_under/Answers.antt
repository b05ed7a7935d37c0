-- `seal_call::seal_under` meets its contract: the nonce and the text are those that were read, or any if the call has failed.
use Prim.Native.Nat.{ℕ}
use mathlib.Core.List.{List, []}
use lib.ListN.{take}
use Rattle.std.proofs.Common.{Bor}
use Rattle.fingerprint.specs.Fingerprint.{fingerprint_of}
use Rattle.lines.specs.Lines.{sealed_text}
use Rattle.outcomes.proofs.Reading.{over_some}
use Rattle.seal_answers.specs.Seal.{sealed_of}
use Rattle.seal_call.proofs.seal_under.Goals as goal

pub returns : goal.returns
returns c =
    let policy = c.args.policy.now in
    let root = c.args.root.now in
    let name = take c.name_argument-name_length.result c.name_argument-name_length.new.name in
    let ended =
    over_some
    ([], [])
    (λ (files : Bor (List ℕ) × Bor (List ℕ)). (files.0.now, files.1.now))
    (λ (files : List ℕ × List ℕ). (sealed_of policy name root files.0 files.1 32806).refusal)
    (λ (files : List ℕ × List ℕ). sealed_text (sealed_of policy name root files.0 files.1 32806).length (fingerprint_of root).bytes c.args.option)
    _
    c.seal-printed.result
    c.seal-printed.ensures
    in
    rw c.report.ensures (policy, name, root, ended.0.0, ended.0.1, ended.1)
