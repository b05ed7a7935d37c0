-- What `weigh` answers for a policy file and a tree file: "For an offered tree the answer is its total and a yes or no: yes exactly when no
-- derivation tree of the policy has a smaller total."
use Rattle.std.specs.Prelude.{ℕ, Bool, false, cond, List, eqb, replicate}
use Rattle.policy_file.specs.File.{count_of}
use Rattle.policy_file.specs.Whole.{policy_refusal, label_count}
use Rattle.trees.specs.Weights.{total, least}
use Rattle.plan_answers.specs.Planned.{at_or_below}
use Rattle.plan_answers.specs.TreeFile.{parent_in, tree_refusal}
use Rattle.plan_answers.specs.declared.Weighed.{Weighed}

-- "A refusal of the policy comes before any other .., then come those of any other file it takes"
unfoldable pub weigh_refusal : List ℕ → List ℕ → ℕ
weigh_refusal policy tree = cond (eqb (policy_refusal policy) 0) (tree_refusal (label_count policy) (at_or_below policy) tree) (policy_refusal policy)

-- "With a refusal every number in the answer is 0, a yes or no is no"
abbrev pub refused_weighed : ℕ → Weighed
refused_weighed number = record { refusal = number; least = false; zeros = replicate 2 0; total = 0 }

-- the total of a tree, and whether no tree has a smaller one
unfoldable pub tree_weighed : (n : ℕ) (count : ℕ → ℕ) (le : ℕ → ℕ → Bool) (parent : ℕ → ℕ) → Weighed
tree_weighed n count le parent = record { refusal = 0; least = least n count le parent; zeros = replicate 2 0; total = total n count le parent }

unfoldable pub weigh_of : List ℕ → List ℕ → Weighed
weigh_of policy tree =
    cond (eqb (weigh_refusal policy tree) 0)
    (tree_weighed (label_count policy) (count_of policy) (at_or_below policy) (parent_in tree))
    (refused_weighed (weigh_refusal policy tree))
