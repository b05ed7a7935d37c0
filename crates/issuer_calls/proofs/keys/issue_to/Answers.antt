-- `issuer_calls::keys::issue_to` meets its contract: the files are those that were read, or any if the call has failed.
use Prim.Native.Nat.{ℕ}
use mathlib.Core.List.{List, []}
use lib.ListN.{take}
use Rattle.std.proofs.Common.{Bor}
use Rattle.fingerprint.specs.Fingerprint.{fingerprint_of}
use Rattle.issuer_answers.specs.Issue.{issued_of}
use Rattle.lines.specs.Lines.{issued_text}
use Rattle.outcomes.proofs.Reading.{over_some}
use Rattle.issuer_calls.proofs.keys.issue_to.Goals as goal

pub returns : goal.returns
returns c =
    let name = take c.name_argument-name_length.result c.name_argument-name_length.new.name in
    let ended =
    over_some
    ([], [])
    (λ (files : Bor (List ℕ) × Bor (List ℕ)). (files.0.now, files.1.now))
    (λ (files : List ℕ × List ℕ). (issued_of files.0 name c.args.account files.1 4096).refusal)
    (λ (files : List ℕ × List ℕ). issued_text (issued_of files.0 name c.args.account files.1 4096).length (fingerprint_of files.1).bytes c.args.option)
    _
    c.issue-printed.result
    c.issue-printed.ensures
    in
    rw c.of_issue.ensures (ended.0.0, name, ended.0.1, ended.1)
