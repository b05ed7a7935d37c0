-- `issuer_calls::keys::key` meets its contract: the files are those that were read, or any if the call has failed.
use Prim.Native.Nat.{ℕ}
use mathlib.Core.List.{List, []}
use lib.ListN.{take}
use Rattle.std.proofs.Common.{Bor}
use Rattle.fingerprint.specs.Fingerprint.{fingerprint_of}
use Rattle.issuer_answers.specs.Keys.{issuer_key_of}
use Rattle.lines.specs.Lines.{key_text}
use Rattle.outcomes.proofs.Ending.{said_printed}
use Rattle.outcomes.proofs.Reading.{over_done}
use Rattle.issuer_calls.proofs.keys.key.Goals as goal

pub returns : goal.returns
returns c =
    let name = take c.name_argument-length.result c.name_argument-length.new.name in
    let ended =
    over_done
    ([], [])
    (λ (files : Bor (List ℕ) × Bor (List ℕ)). (files.0.now, files.1.now))
    (λ (files : List ℕ × List ℕ). (issuer_key_of files.0 name files.1).refusal)
    (λ (files : List ℕ × List ℕ). key_text (issuer_key_of files.0 name files.1).key (fingerprint_of files.1).bytes c.args.option)
    _
    c.key-ended.result
    c.key-ended.ensures
    in
    (ended.0.0, name, ended.0.1, said_printed _ _ c.of_key.ensures ended.1)
