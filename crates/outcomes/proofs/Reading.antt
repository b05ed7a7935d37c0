-- A call over files ends as its operation does on some bytes, also where they could not be read.
use Prim.Native.Nat.{ℕ}
use mathlib.Core.Bool.{true}
use mathlib.Core.List.{List}
use mathlib.Core.Path.{◌≡◌, ap}
use Rattle.std.proofs.Common.{Option, Some, None, MatchOption}
use Rattle.outcomes.proofs.Ending.{said_none}
use Rattle.outcomes.specs.Status.{is_done, Ends}
use Rattle.outcomes.specs.declared.Ended.{Ended}
use Rattle.outcomes.specs.declared.Ended.TheVariants.{Failed}

-- `now`: the bytes of what was read; `none`: any bytes
module _ {A B : Type 0} (none : B) (now : A → B) (refusal : B → ℕ) (answer : B → List ℕ) where
  pub over_some : (read : Option A) (e : Ended) → MatchOption read (e ≡ Failed) (λ x. Ends (refusal (now x)) (answer (now x)) e)
      → (bytes : B) × Ends (refusal bytes) (answer bytes) e
  over_some None e failed = (none, said_none _ _ e (ap is_done failed))
  over_some (Some x) e held = (now x, held)

  pub over_done : (read : Option A) (e : Ended)
      → MatchOption read (e ≡ Failed) (λ x. (is_done e ≡ true) × Ends (refusal (now x)) (answer (now x)) e)
      → (bytes : B) × Ends (refusal bytes) (answer bytes) e
  over_done None e failed = (none, said_none _ _ e (ap is_done failed))
  over_done (Some x) e held = (now x, held.1)
