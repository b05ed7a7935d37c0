-- Document 003's statements, shown for every list of bytes that is an accepted policy.
use Prim.Native.Nat.{ℕ}
use mathlib.Core.List.{List}
use mathlib.Core.Path.{refl}
use Rattle.plan_answers.proofs.PolicyOrder.{policy_order}
use Rattle.plan_answers.specs.Planned.{at_or_below}
use Rattle.policy_file.specs.File.{count_of}
use Rattle.policy_file.specs.Whole.{AcceptedPolicy, label_count}
use Rattle.trees.proofs.Published.{tree_spans, arc_below, sufficient_published, phi_root, phi, theorem2, gamma}
use Rattle.trees.proofs.Smallest.{smallest_sufficient, smallest_within}
use Rattle.trees.specs.Order.{Order}
use Rattle.trees.specs.Weights.{weight}
use Rattle.claims.specs.Published.{R, TreeOf, smallest_set, OfPublishedTree, Published}

module _ (file : List ℕ) (ok : AcceptedPolicy file) where
  order : Order (label_count file) (R file) (at_or_below file)
  order = policy_order file ok

  of_tree : (parent : ℕ → ℕ) → TreeOf file parent → OfPublishedTree file parent
  of_tree parent T = record {
    spans = tree_spans order T;
    arcs = λ y z a. arc_below order T a;
    definition2 = λ x hx set. sufficient_published order T hx set;
    phi_root = phi_root order T;
    phi = λ x z hx ne. phi order T hx ne;
    lemma2 = λ x hx. (sufficient_published order T hx (smallest_set file parent x)).0 (smallest_sufficient order T hx);
    lemma3 = λ x hx set D. smallest_within order T hx set ((sufficient_published order T hx set).1 D);
    theorem2 = theorem2 order T (count_of file);
  }

  pub published_of_policy : Published file
  unfolding weight
  published_of_policy = record {
    order = order;
    gamma = λ p m l hp hm hl. gamma order hl hp hm;
    weight_sum = λ p m. refl;
    trees = of_tree;
  }
