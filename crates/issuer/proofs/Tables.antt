-- The order's rows as `plan_order` leaves them, and an account's envelope from the tables.
use Prim.Native.Nat.{ℕ}
use mathlib.Core.Bool.{Bool}
use mathlib.Core.List.{List}
use mathlib.Core.Path.{◌≡◌, ap, ap₂, ◌∙◌}
use borrow.Author.Tests.{eq-eqb}
use lib.ListN.{length}
use Rattle.format.specs.Bytes.{bytes_at}
use Rattle.plan_answers.specs.Planned.{planned, plan_of, rows_after}
use Rattle.plan_answers.specs.declared.Plan.{Plan}
use Rattle.policy_file.specs.Whole.{policy_refusal, order_of}
use Rattle.writer.specs.Tabled.{table_envelope}
use Rattle.issuer_answers.specs.Issue.{account_envelope}
use Rattle.issuer_keys.proofs.Tables.{plan_accepted, root_read}

module _ (policy : List ℕ) {plan : Plan} (same : plan ≡ plan_of policy) where
  pub plan_rows : plan.refusal ≡ 0 → (rows : List (List Bool)) → rows_after policy rows ≡ order_of policy
  unfolding rows_after
  plan_rows e rows = rw (eq-eqb (policy_refusal policy) 0 (plan_accepted policy same e))

  pub envelope_made : (root : List ℕ) → length root ≡ 32 → {read : List ℕ} → read ≡ bytes_at root 0 32 → (l account : ℕ) {rows : List (List Bool)}
      → rows ≡ order_of policy
      → table_envelope policy rows plan.parents read l plan.labels account ≡ account_envelope policy root l account
  unfolding account_envelope plan_of planned
  envelope_made root whole {read} start l account t =
      ap (λ (rs : List (List Bool)). table_envelope policy rs plan.parents read l plan.labels account) t
      ∙ ap₂ (λ (p : Plan) (r : List ℕ). table_envelope policy (order_of policy) p.parents r l p.labels account) same (root_read policy same root whole start)
