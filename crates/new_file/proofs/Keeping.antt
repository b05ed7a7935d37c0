-- What is told of a file that was to be kept, by what was told of one that was saved.
use Prim.Native.Nat.{ℕ}
use mathlib.Core.Bool.{true, false≢true}
use mathlib.Core.List.{List}
use mathlib.Core.Path.{◌≡◌}
use Rattle.std.proofs.Common.{Option, Some, None, MatchOption, IfSome}
use Rattle.outcomes.specs.Status.{is_done, Said}
use Rattle.outcomes.specs.declared.Ended.{Ended}
use Rattle.outcomes.specs.declared.Ended.TheVariants.{Failed}

pub saved_said : (saved : Option ℕ) (n : ℕ) (e : Ended) (text : ℕ → List ℕ) → IfSome saved (λ size. size ≡ n)
    → MatchOption saved (e ≡ Failed) (λ size. (is_done e ≡ true) × Said 0 (text size) e) → is_done e ≡ true → Said 0 (text n) e
saved_said None n e text whole failed done = absurd (false≢true (rw failed at done))
saved_said (Some size) n e text whole told done = rw (← whole) told.1
