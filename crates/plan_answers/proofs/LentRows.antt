-- The rows lent to `plan_order`: what they hold with a refusal, and for an accepted policy.
use Prim.Native.Nat.{ℕ, ◌<◌}
use mathlib.Core.Bool.{Bool}
use mathlib.Core.List.{List}
use mathlib.Core.Path.{◌≡◌}
use native.Mathlib.Omega.{arith}
use borrow.Author.Tests.{eq-eqb, ne_eqb}
use Rattle.policy_file.specs.Whole.{policy_refusal, AcceptedPolicy, order_of}
use Rattle.plan_answers.specs.Planned.{rows_after}

module _ (file : List ℕ) where
  -- with a refusal "lent buffers are unchanged"
  pub rows_refused : 0 < policy_refusal file → (rows : List (List Bool)) → rows_after file rows ≡ rows
  unfolding rows_after
  rows_refused h rows = rw (ne_eqb (policy_refusal file) 0 (λ e. omega arith))

  -- an accepted policy's order, whatever the rows held before
  pub rows_accepted : AcceptedPolicy file → (rows : List (List Bool)) → rows_after file rows ≡ order_of file
  unfolding rows_after
  rows_accepted ok rows = rw (eq-eqb (policy_refusal file) 0 ok)
