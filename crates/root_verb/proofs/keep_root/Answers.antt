-- `root_verb::keep_root` meets its contract: what is told is told of all that was drawn.
use Prim.Native.Nat.{ℕ}
use mathlib.Core.Path.{refl}
use Rattle.std.proofs.Common.{rules}
use Rattle.fingerprint.specs.Fingerprint.{fingerprint_of}
use Rattle.lines.specs.Lines.{fingerprint_line}
use Rattle.new_file.proofs.Keeping.{saved_said}
use Rattle.outcomes.proofs.Ending.{said_done, ends_answered}
use Rattle.root_verb.proofs.keep_root.Goals as goal

pub returns : goal.returns
returns c =
    let line = fingerprint_line (fingerprint_of c.in-Some.root).bytes in
    let told = said_done 0 line c.keep.result (λ d. let k = c.keep.ensures in let said = k.2 d in saved_said k.0 _ c.keep.result (λ n. line) k.1 (search rules) d) in
    rw c.in-Some.is (ends_answered 0 line c.keep.result refl told)
