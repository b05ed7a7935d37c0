-- Demand 3, shown for every list of bytes that is an accepted policy.
use Prim.Native.Nat.{ℕ}
use mathlib.Core.Bool.{true}
use mathlib.Core.List.{List}
use mathlib.Core.Logic.{◌↔◌}
use mathlib.Core.Path.{◌≡◌, sym, subst}
use Rattle.plan_answers.proofs.PlanAnswer.{plan_answer_tree, plan_answer_hangs, plan_answer_preferred, plan_answer_covers, plan_answer_total, plan_answer_fewest, plan_answer_weights, plan_answer_top_weight, plan_answer_sizes, plan_answer_sum}
use Rattle.plan_answers.proofs.PolicyOrder.{policy_order}
use Rattle.plan_answers.proofs.WeighAnswer.{weigh_accepted, weigh_total, weigh_yes, weigh_yes_equal, weigh_yes_smallest}
use Rattle.plan_answers.specs.Planned.{plan_of, at_or_below}
use Rattle.plan_answers.specs.Weighing.{weigh_of}
use Rattle.policy_file.specs.File.{count_of}
use Rattle.policy_file.specs.Whole.{AcceptedPolicy, label_count}
use Rattle.trees.proofs.Accounts.{weight_accounts}
use Rattle.trees.proofs.Fewest.{fewest_unique, fewest_equals}
use Rattle.trees.proofs.Smallest.{smallest_sufficient, smallest_within, smallest_shortest}
use Rattle.trees.proofs.Totals.{smallest_assigned, smallest_keys, total_weights, total_needed}
use Rattle.trees.specs.Order.{Order}
use Rattle.claims.specs.Demand3.{Demand3, OfTree, OfPlan, OfOffer, FewestOf}
use Rattle.claims.specs.Published.{R, TreeOf}
use Rattle.claims.proofs.Published.{published_of_policy}

module _ (file : List ℕ) (ok : AcceptedPolicy file) where
  order : Order (label_count file) (R file) (at_or_below file)
  order = policy_order file ok

  of_tree : (parent : ℕ → ℕ) → TreeOf file parent → OfTree file parent
  of_tree parent T = record {
    assigned = smallest_assigned order (count_of file) T;
    issues = smallest_keys (label_count file) (count_of file) (at_or_below file) parent;
    sufficient = λ l hl. smallest_sufficient order T hl;
    within = λ l hl. smallest_within order T hl;
    shortest = λ l hl. smallest_shortest order T hl;
    needed = total_needed order (count_of file) T;
    equals = fewest_equals order (count_of file) T;
    weighs = total_weights order (count_of file) parent;
  }

  of_plan : OfPlan file
  of_plan = record {
    tree = plan_answer_tree file ok;
    hangs = plan_answer_hangs file ok;
    fewest = plan_answer_fewest file ok;
    total = plan_answer_total file ok;
    highest = plan_answer_preferred file ok;
    covers = plan_answer_covers file ok;
    weights = plan_answer_weights file ok;
    top_weight = plan_answer_top_weight file ok;
    sizes = plan_answer_sizes file ok;
    sums = plan_answer_sum file ok;
  }

  -- a yes says that the total is the fewest, so it equals the number that is
  says_equal : (tree : List ℕ) → (weigh_of file tree).refusal ≡ 0 → (k : ℕ) → FewestOf file k → ((weigh_of file tree).least ≡ true) ↔ ((weigh_of file tree).total ≡ k)
  says_equal tree read k F = (
    λ y. fewest_unique ((weigh_yes file tree ok read).0 y) F,
    λ e. (weigh_yes file tree ok read).1 (subst (FewestOf file) (sym e) F),
  )

  of_offer : (tree : List ℕ) → OfOffer file tree
  of_offer tree = record {
    read = weigh_accepted file tree ok;
    total = weigh_total file tree ok;
    yes = says_equal tree;
    yes_equal = weigh_yes_equal file tree ok;
    yes_smallest = weigh_yes_smallest file tree ok;
  }

  pub demand3_of_policy : Demand3 file
  demand3_of_policy = record {
    published = published_of_policy file ok;
    trees = of_tree;
    some = ((plan_of file).total, plan_answer_fewest file ok);
    one = λ j k F G. fewest_unique F G;
    plan = of_plan;
    offers = of_offer;
    weight_accounts = λ p m hp hm. weight_accounts order (count_of file) hp hm;
  }
