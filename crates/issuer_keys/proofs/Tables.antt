-- The plan's answer as the functions have it: its numbers, and the parents that the labels hang from.
use Rattle.std.specs.Prelude.{Option, Some}
use Prim.Native.Nat.{ℕ, ◌+◌, ◌*◌, ◌≤◌, ◌<◌}
use mathlib.Core.List.{List}
use mathlib.Core.Path.{◌≡◌, sym, ap, ap₂, subst, ◌∙◌}
use native.Mathlib.Omega.{arith}
use lib.ListN.{length}
use lib.Seq.{take_all}
use Rattle.envelopes.specs.Secrets.{key_of}
use Rattle.format.specs.Bytes.{bytes_at}
use Rattle.hmac.specs.Secrets.{label_key}
use Rattle.plan_answers.proofs.PlanAnswer.{plan_answer_tree}
use Rattle.plan_answers.proofs.PolicyOrder.{policy_order}
use Rattle.plan_answers.proofs.WorkedTables.{table_rowed}
use Rattle.plan_answers.specs.Planned.{at_or_below, planned, plan_of}
use Rattle.plan_answers.specs.declared.Plan.{Plan}
use Rattle.policy_file.proofs.Lawful.{lawful}
use Rattle.policy_file.proofs.Verdict.{bounds}
use Rattle.policy_file.specs.File.{name_of, count_of}
use Rattle.policy_file.specs.Whole.{policy_refusal, label_count, AcceptedPolicy}
use Rattle.trees.proofs.Order.{above_lower}
use Rattle.trees.specs.Trees.{top}
use Rattle.weights.specs.Tables.{entries, parent_table}
use Rattle.secrets.proofs.Hanging.{hung_fewer}
use Rattle.secrets.specs.Asks.{Hung, table_secret}
use Rattle.issuer_answers.specs.Keys.{label_key_of, label_asked}
use Rattle.issuer_answers.proofs.Asked.{asked_below}

module _ (policy : List ℕ) where
  -- the top's entry is below 64 as every other
  under_top : entries (plan_of policy).parents top < 64
  unfolding plan_of planned parent_table
  under_top = table_rowed (label_count policy) (count_of policy) (at_or_below policy) 1 (bounds policy).0 top (omega arith)

  -- the plan's parents have smaller numbers than their labels
  pub hung : AcceptedPolicy policy → Hung policy (plan_of policy).parents (label_count policy)
  hung ok = record {
    few = (lawful policy ok).few_labels;
    within = omega (arith, (lawful policy ok).whole);
    falls = λ m h ne. above_lower (policy_order policy ok) h ((plan_answer_tree policy ok).hangs m h ne);
    under = under_top;
  }

  -- what `plan_policy` and `plan_order` answer
  module _ {plan : Plan} (same : plan ≡ plan_of policy) where
    pub plan_number : plan.refusal ≡ policy_refusal policy
    unfolding plan_of planned
    plan_number = ap (λ (p : Plan). p.refusal) same

    pub plan_labels : plan.labels ≡ label_count policy
    unfolding plan_of planned
    plan_labels = ap (λ (p : Plan). p.labels) same

    pub plan_within : 12 * plan.labels ≤ length policy
    plan_within = omega (arith, plan_labels, (bounds policy).2)

    pub plan_accepted : plan.refusal ≡ 0 → AcceptedPolicy policy
    plan_accepted e = sym plan_number ∙ e

    pub plan_hung : plan.refusal ≡ 0 → Hung policy plan.parents plan.labels
    unfolding plan_of planned
    plan_hung e = subst (λ (p : Plan). Hung policy p.parents p.labels) (sym same) (hung (plan_accepted e))

    -- the label asked for, once it is looked for
    module _ (name : List ℕ) {found : Option ℕ} (asked : found ≡ label_asked policy plan.labels name) where
      pub asked_told : {f : Option ℕ} → found ≡ f → label_asked policy (label_count policy) name ≡ f
      asked_told told = ap (λ (n : ℕ). label_asked policy n name) (sym plan_labels) ∙ sym asked ∙ told

      pub told_below : {l : ℕ} → found ≡ Some l → l < plan.labels
      told_below {l} told = asked_below policy name plan.labels l (sym asked ∙ told)

      -- its record lies within the file, and the labels up to it hang
      pub told_within : {l : ℕ} → found ≡ Some l → 12 * l + 12 ≤ length policy
      told_within told = omega (arith, told_below told, plan_within)

      pub told_hung : {l : ℕ} → plan.refusal ≡ 0 → found ≡ Some l → Hung policy plan.parents (l + 1)
      told_hung {l} e told = hung_fewer (plan_hung e) (l + 1) (omega (arith, told_below told))

    -- the root secret as it is read, and a label's key as it is made
    module _ (root : List ℕ) (whole : length root ≡ 32) {read : List ℕ} (start : read ≡ bytes_at root 0 32) where
      pub root_read : read ≡ root
      root_read = start ∙ take_all 32 root (omega arith)

      pub key_made : (l : ℕ) {secret own key : List ℕ} → secret ≡ table_secret policy plan.parents read l → own ≡ name_of policy l
          → key ≡ label_key secret own → key ≡ label_key_of policy root l
      unfolding label_key_of key_of
      key_made l s n k =
          k
          ∙ ap₂ label_key
          (s ∙ ap₂ (λ (p : Plan) (r : List ℕ). table_secret policy p.parents r l) same root_read)
          n
