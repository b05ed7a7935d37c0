-- Demand 1 for policy files and tree files, shown for every list of bytes.
use Prim.Native.Nat.{ℕ, ◌≤◌, ◌<◌}
use mathlib.Core.List.{List}
use mathlib.Core.Logic.{◌⊎◌, inl, inr, ◌↔◌}
use mathlib.Core.Path.{◌≡◌, sym, ap, ◌∙◌}
use native.Mathlib.Omega.{arith}
use Rattle.plan_answers.proofs.LentRows.{rows_refused}
use Rattle.plan_answers.proofs.PlanAnswer.{plan_refused}
use Rattle.plan_answers.proofs.PolicyOrder.{policy_order}
use Rattle.plan_answers.proofs.TreeNumbers.{tree_refusal_2, tree_refusal_11, tree_refusal_12, tree_refusal_range}
use Rattle.plan_answers.proofs.WeighAnswer.{weigh_policy_refused, weigh_number, weigh_tree_refused, weigh_accepted}
use Rattle.plan_answers.specs.Planned.{at_or_below}
use Rattle.plan_answers.specs.TreeFile.{tree_refusal}
use Rattle.plan_answers.specs.Weighing.{refused_weighed, weigh_of}
use Rattle.plan_answers.specs.declared.Weighed.{Weighed}
use Rattle.policy_c.proofs.OrderAnswer.{order_answer_refused}
use Rattle.policy_file.proofs.Answered.{answered_only}
use Rattle.policy_file.proofs.Demand1.{refusal_1, refusal_2, refusal_3, refusal_4, refusal_5, refusal_6, refusal_7, refusal_8, refusal_9, refusal_10, accepted_iff, read_or_refused, refused_zeros}
use Rattle.policy_file.specs.Rows.{read}
use Rattle.policy_file.specs.Whole.{policy_refusal, label_count, AcceptedPolicy}
use Rattle.policy_file.proofs.Front.{front_answers}
use Rattle.policy_file.proofs.Stopping.{read_before_refused, read_to_end, read_nothing}
use Rattle.claims.specs.Demand1.{Demand1, Demand1OfTree}

pub demand1 : (file : List ℕ) → Demand1 file
demand1 file = record {
  answered = read_or_refused file;
  read = λ ok. answered_only file (read ((accepted_iff file).0 ok));
  zeros = refused_zeros file;
  plan_zeros = plan_refused file;
  order_zeros = order_answer_refused file;
  rows_kept = λ rows h. rows_refused file h rows;
  empty = refusal_1 file;
  no_mark = refusal_2 file;
  cut_short = refusal_3 file;
  late_label = refusal_4 file;
  too_many = refusal_5 file;
  bad_name = refusal_6 file;
  name_carried = refusal_7 file;
  no_such_label = refusal_8 file;
  not_above = refusal_9 file;
  unplaced = refusal_10 file;
  accepted = accepted_iff file;
  read_before = λ labels pairs n passes row. read_before_refused file passes row;
  read_all = λ labels pairs passes ends. read_to_end file passes ends;
  read_none = read_nothing file;
  front = front_answers 2828 (omega arith) file;
}

module _ (policy tree : List ℕ) where
  module _ (ok : AcceptedPolicy policy) where
    -- the answer's number is the tree file's own
    number : (weigh_of policy tree).refusal ≡ tree_refusal (label_count policy) (at_or_below policy) tree
    number = weigh_number policy tree ok

    exactly : {Row : Type 0} (k : ℕ) → (tree_refusal (label_count policy) (at_or_below policy) tree ≡ k) ↔ Row → ((weigh_of policy tree).refusal ≡ k) ↔ Row
    exactly k iff = (λ e. iff.0 (sym number ∙ e), λ r. number ∙ iff.1 r)

  tree_zeros : 0 < (weigh_of policy tree).refusal → weigh_of policy tree ≡ refused_weighed (weigh_of policy tree).refusal
  tree_zeros h = go (read_or_refused policy)
    where
      go : AcceptedPolicy policy ⊎ ((1 ≤ policy_refusal policy) × (policy_refusal policy ≤ 10)) → weigh_of policy tree ≡ refused_weighed (weigh_of policy tree).refusal
      go (inl ok) = let e = number ok in weigh_tree_refused policy tree ok (omega arith) ∙ ap refused_weighed (sym e)
      go (inr bad) = let e = weigh_policy_refused policy tree bad.0 in e ∙ ap refused_weighed (sym (ap (λ (w : Weighed). w.refusal) e))

  pub demand1_of_tree : Demand1OfTree policy tree
  demand1_of_tree = record {
    policy_first = λ h. ap (λ (w : Weighed). w.refusal) (weigh_policy_refused policy tree h);
    zeros = tree_zeros;
    no_mark = λ ok. exactly ok 2 (tree_refusal_2 (policy_order policy ok) tree);
    other_length = λ ok. exactly ok 11 (tree_refusal_11 (policy_order policy ok) tree);
    no_parent = λ ok. exactly ok 12 (tree_refusal_12 (policy_order policy ok) tree);
    read = weigh_accepted policy tree;
    answered = λ ok. rw (number ok) (tree_refusal_range (policy_order policy ok) tree);
  }
