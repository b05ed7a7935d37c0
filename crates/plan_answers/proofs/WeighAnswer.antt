-- What `weigh` answers for a policy file and a tree file: demand 3's "An offered tree that is read gets the first total as its answer, and a yes
-- exactly when the two are equal", and 0 and no with a refusal.
use Prim.Native.Nat.{ℕ, ◌≤◌, ◌<◌}
use mathlib.Core.Bool.{Bool, true, false}
use mathlib.Core.List.{List}
use mathlib.Core.Logic.{◌↔◌}
use mathlib.Core.Path.{◌≡◌, refl, sym, ◌∙◌}
use native.Mathlib.Omega.{arith}
use borrow.Author.Tests.{eq-eqb, ne_eqb, eqb-true}
use lib.Dec.{eqb}
use Rattle.order.specs.Order.{AtOrBelow}
use Rattle.policy_file.specs.File.{count_of}
use Rattle.policy_file.specs.Whole.{policy_refusal, label_count, pairs_of, AcceptedPolicy}
use Rattle.trees.proofs.Fewest.{yes_fewest, yes_equals, yes_no_smaller}
use Rattle.trees.specs.Order.{Order}
use Rattle.trees.specs.Trees.{Tree, Fewest}
use Rattle.trees.specs.Weights.{total}
use Rattle.plan_answers.proofs.PlanAnswer.{plan_answer_fewest}
use Rattle.plan_answers.proofs.PolicyOrder.{policy_order}
use Rattle.plan_answers.proofs.TreeNumbers.{tree_accepted}
use Rattle.plan_answers.specs.Planned.{at_or_below, plan_of}
use Rattle.plan_answers.specs.TreeFile.{parent_in, tree_refusal}
use Rattle.plan_answers.specs.TreeRows.{GivesTree}
use Rattle.plan_answers.specs.Weighing.{weigh_refusal, refused_weighed, tree_weighed, weigh_of}
use Rattle.plan_answers.specs.declared.Weighed.{Weighed}

module _ (policy tree : List ℕ) where
  abbrev n : ℕ
  n = label_count policy

  abbrev count : ℕ → ℕ
  count = count_of policy

  abbrev R : ℕ → ℕ → Type 0
  R = AtOrBelow (pairs_of policy)

  abbrev le : ℕ → ℕ → Bool
  le = at_or_below policy

  abbrev answer : Weighed
  answer = weigh_of policy tree

  -- ---- refused files

  refused_by : (number : ℕ) → weigh_refusal policy tree ≡ number → 0 < number → answer ≡ refused_weighed number
  unfolding weigh_of
  refused_by number e h = rw (e, ne_eqb number 0 (λ z. omega arith))

  -- "A refusal of the policy comes before any other", "every number in the answer is 0, a yes or no is no"
  pub weigh_policy_refused : 0 < policy_refusal policy → answer ≡ refused_weighed (policy_refusal policy)
  unfolding weigh_refusal
  weigh_policy_refused h = refused_by (policy_refusal policy) (rw (ne_eqb (policy_refusal policy) 0 (λ z. omega arith))) h

  module _ (ok : AcceptedPolicy policy) where
    number : weigh_refusal policy tree ≡ tree_refusal n le tree
    unfolding weigh_refusal
    number = rw (eq-eqb (policy_refusal policy) 0 ok)

    -- "then come those of any other file it takes"
    pub weigh_tree_refused : 0 < tree_refusal n le tree → answer ≡ refused_weighed (tree_refusal n le tree)
    weigh_tree_refused h = refused_by (tree_refusal n le tree) number h

    -- ---- files that are read

    pub weigh_number : answer.refusal ≡ tree_refusal n le tree
    unfolding weigh_of tree_weighed
    weigh_number = go (eqb (weigh_refusal policy tree) 0) refl ∙ number
      where
        go : (b : Bool) → eqb (weigh_refusal policy tree) 0 ≡ b → (weigh_of policy tree).refusal ≡ weigh_refusal policy tree
        go true e = rw e (sym (eqb-true (weigh_refusal policy tree) 0 e))
        go false e = rw e

    -- the answer has no refusal exactly when the file has its form and gives a derivation tree of the policy
    pub weigh_accepted : (answer.refusal ≡ 0) ↔ GivesTree n R tree
    weigh_accepted =
        let iff = tree_accepted (policy_order policy ok) tree in
        (λ e. iff.0 (sym weigh_number ∙ e), λ g. weigh_number ∙ iff.1 g)

    module _ (read : answer.refusal ≡ 0) where
      pub weigh_read : Tree n R (parent_in tree)
      weigh_read = (weigh_accepted.0 read).hung

      order : Order n R le
      order = policy_order policy ok

      worked : answer ≡ tree_weighed n count le (parent_in tree)
      unfolding weigh_of
      worked = rw (eq-eqb (weigh_refusal policy tree) 0 (number ∙ sym weigh_number ∙ read))

      -- "An offered tree that is read gets the first total as its answer": the keys issued under that tree
      pub weigh_total : answer.total ≡ total n count le (parent_in tree)
      unfolding tree_weighed
      weigh_total = rw worked

      -- "and a yes exactly when the two are equal": its own total and the fewest
      pub weigh_yes : (answer.least ≡ true) ↔ Fewest n count R answer.total
      unfolding tree_weighed
      weigh_yes = rw worked (yes_fewest order count weigh_read)

      pub weigh_yes_equal : (answer.least ≡ true) ↔ (answer.total ≡ (plan_of policy).total)
      unfolding tree_weighed
      weigh_yes_equal = rw worked (yes_equals order count weigh_read (plan_of policy).total (plan_answer_fewest policy ok))

      -- 01: "yes exactly when no derivation tree of the policy has a smaller total"
      pub weigh_yes_smallest : (answer.least ≡ true) ↔ ((other : ℕ → ℕ) → Tree n R other → answer.total ≤ total n count le other)
      unfolding tree_weighed
      weigh_yes_smallest = rw worked (yes_no_smaller order count weigh_read)
