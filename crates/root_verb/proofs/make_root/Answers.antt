-- `root_verb::make_root` meets its contract: the root secret is the one that was drawn, or any if the call has failed.
use Prim.Native.Nat.{ℕ}
use mathlib.Core.List.{List}
use mathlib.Core.Path.{◌≡◌, refl, ap}
use lib.ListN.{length, replicate}
use Rattle.std.proofs.Common.{Option, Some, None, MatchOption, IfSome}
use Rattle.fingerprint.specs.Fingerprint.{fingerprint_of}
use Rattle.lines.specs.Lines.{fingerprint_line}
use Rattle.outcomes.proofs.Ending.{said_none}
use Rattle.outcomes.specs.Status.{is_done, Ends}
use Rattle.outcomes.specs.declared.Ended.{Ended}
use Rattle.outcomes.specs.declared.Ended.TheVariants.{Failed}
use Rattle.root_verb.proofs.make_root.Goals as goal

abbrev line : List ℕ → List ℕ
line root = fingerprint_line (fingerprint_of root).bytes

some_root : (drawn : Option (List ℕ)) (e : Ended) → IfSome drawn (λ root. length root ≡ 32)
    → MatchOption drawn (e ≡ Failed) (λ root. Ends 0 (line root) e) → (root : List ℕ) × (length root ≡ 32) × Ends 0 (line root) e
some_root None e size failed = (replicate 32 0, refl, said_none _ _ e (ap is_done failed))
some_root (Some root) e size held = (root, size, held)

pub returns : goal.returns
returns c = some_root c.draw-drawn.result c.keep_root.result c.draw-drawn.ensures c.keep_root.ensures
