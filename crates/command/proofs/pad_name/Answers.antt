-- `command::pad_name` meets its contract: a long name as it is, a short one copied over 8 spaces.
use Prim.Native.Nat.{ℕ}
use mathlib.Core.List.{List, ◌++◌}
use lib.ListN.{length, drop, replicate}
use lib.Seq.{take-length}
use mathlib.Core.Path.{ap, sym, ◌∙◌}
use Rattle.command.proofs.Padding.{long_stays, short_padded}
use native.Mathlib.Omega.{arith}
use Rattle.command.proofs.pad_name.Goals as goal

pub returns-then-typed-gt8 : goal.returns-then-typed-gt8
returns-then-typed-gt8 c = let a = c.args in
    rw (long_stays a.typed.now (omega arith)) c.hand_out.ensures

pub returns : goal.returns
returns c = let f = c in
    let a = f.args in
    let s = a.typed.now in
    let after = c.copy_from_slice.ensures.after ∙ sym (take-length s) in
    let e = ap (λ (front : List ℕ). front ++ drop (length s) (replicate 8 32)) after ∙ short_padded s (omega arith) in
    rw e at c.hand_out-2.ensures
