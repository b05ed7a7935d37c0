-- Demands 2 and 3, shown for every accepted policy file and any accounts below 65,536.
use Prim.Native.Nat.{ℕ, ◌<◌}
use mathlib.Core.Bool.{Bool}
use mathlib.Core.List.{List}
use mathlib.Core.Path.{◌≡◌, refl, sym, ap, ap₂, ◌∙◌, subst}
use native.Mathlib.Omega.{arith}
use lib.ListN.{get_or}
use Rattle.order.specs.Order.{AtOrBelow}
use Rattle.order.specs.Table.{entry_at, order_table}
use Rattle.order.specs.declared.Pair.{Pair}
use Rattle.plan_answers.proofs.PolicyOrder.{policy_order}
use Rattle.plan_answers.proofs.WorkedTables.{planned_agree}
use Rattle.plan_answers.specs.Planned.{planned, plan_of, at_or_below}
use Rattle.plan_answers.specs.declared.Plan.{Plan}
use Rattle.policy_file.proofs.Lawful.{lawful}
use Rattle.policy_file.proofs.Recounted.{counts_replaced, recounted_own}
use Rattle.policy_file.specs.Counts.{recounted, OtherCounts}
use Rattle.policy_file.specs.File.{count_of}
use Rattle.policy_file.specs.Whole.{policy_refusal, label_count, AcceptedPolicy, order_of}
use Rattle.trees.proofs.Fewest.{hangs_tree, plan_hangs, plan_fewest, fewest_equals}
use Rattle.trees.specs.Order.{Order}
use Rattle.trees.specs.Weights.{plan, LeastWeight}
use Rattle.weights.proofs.Reading.{entries_filled}
use Rattle.weights.specs.Tables.{entries}
use Rattle.claims.specs.Accounts.{FewestFor, total_for, HangsFor, WithAccounts}
use Rattle.claims.specs.Published.{R, TreeOf}
use Rattle.claims.proofs.Demand2.{demand2}
use Rattle.claims.proofs.Demand3.{demand3_of_policy}

-- ---- what is planned for an accepted policy's labels and order, with any accounts

module _ (file : List ℕ) (ok : AcceptedPolicy file) (count : ℕ → ℕ) where
  order : Order (label_count file) (R file) (at_or_below file)
  order = policy_order file ok

  abbrev made : Plan
  made = planned 0 (label_count file) count (at_or_below file)

  planned_hangs : HangsFor file count (entries made.parents)
  unfolding planned
  planned_hangs = record {
    hangs = λ m hm ne. subst (λ (p : ℕ). LeastWeight (label_count file) count (R file) (at_or_below file) p m)
        (sym (entries_filled (plan (label_count file) count (at_or_below file)) (label_count file) m hm)) ((plan_hangs order count).hangs m hm ne);
  }

  planned_fewest : FewestFor file count made.total
  unfolding planned
  planned_fewest = plan_fewest order count

  planned_total_lem : made.total ≡ total_for file count (entries made.parents)
  planned_total_lem = sym ((fewest_equals order count (hangs_tree planned_hangs) made.total planned_fewest).1 planned_hangs)

  -- ---- the policy file that has these accounts

  module _ (bytes : (i : ℕ) → get_or file i 0 < 256) (other : List ℕ) (so : OtherCounts file other count) where
    same_test : at_or_below other ≡ at_or_below file
    unfolding order_of
    same_test = ap entry_at (ap₂ order_table so.labels so.pairs)

    same_plan : plan_of other ≡ made
    unfolding plan_of
    same_plan =
        ap₂ (λ (n : ℕ) (le : ℕ → ℕ → Bool). planned (policy_refusal other) n (count_of other) le) so.labels same_test
        ∙ ap (λ (refusal : ℕ). planned refusal (label_count file) (count_of other) (at_or_below file)) so.accepted
        ∙ planned_agree so.counts (λ m l hm hl. refl) 0

    pub with_accounts : WithAccounts file other count
    with_accounts = record {
      replaced = so;
      demand2 = demand2 other so.accepted (so.bytes bytes);
      demand3 = demand3_of_policy other so.accepted;
      order = λ m l. (
        subst (λ (pairs : List Pair). AtOrBelow pairs m l) so.pairs,
        subst (λ (pairs : List Pair). AtOrBelow pairs m l) (sym so.pairs),
      );
      test = same_test;
      plan = same_plan;
      tree = subst (λ (p : Plan). TreeOf file (entries p.parents)) (sym same_plan) (hangs_tree planned_hangs);
      hangs = subst (λ (p : Plan). HangsFor file count (entries p.parents)) (sym same_plan) planned_hangs;
      fewest = subst (λ (p : Plan). FewestFor file count p.total) (sym same_plan) planned_fewest;
      total = subst (λ (p : Plan). p.total ≡ total_for file count (entries p.parents)) (sym same_plan) planned_total_lem;
      equals = λ parent T. fewest_equals order count T;
    }

-- ---- any accounts, and those of the `LB` records

module _ (file : List ℕ) (ok : AcceptedPolicy file) (bytes : (i : ℕ) → get_or file i 0 < 256) where
  -- "for every accepted policy" and any accounts that an `LB` record can hold
  pub any_accounts : (count : ℕ → ℕ) → ((l : ℕ) → l < label_count file → count l < 65_536) → WithAccounts file (recounted file count (label_count file)) count
  any_accounts count few = with_accounts file ok count bytes (recounted file count (label_count file)) (counts_replaced file ok count few)

  -- with the counts of the `LB` records it is the file itself
  pub own_accounts : recounted file (count_of file) (label_count file) ≡ file
  own_accounts = recounted_own file bytes (label_count file) (omega (arith, (lawful file ok).whole))
