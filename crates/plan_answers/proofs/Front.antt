-- The plan of a policy file, and what is answered to an offered tree, follow from the policy's first 2,828 bytes; from the first 67 bytes of
-- the tree file too, since a longer one has the wrong length.
use Prim.Native.Nat.{ℕ, ◌+◌, ◌≤◌, ◌<◌}
use mathlib.Core.Bool.{Bool, true, false, cond}
use mathlib.Core.List.{List, ◌++◌}
use mathlib.Core.Path.{◌≡◌, refl, sym, ap, ap₂, ◌∙◌}
use native.Mathlib.Decide.{ℕ_discrete}
use native.Mathlib.Omega.{arith}
use lib.Dec.{eqb}
use lib.ListN.{length, take, length-append}
use Rattle.format.proofs.Bytes.{front_bytes, fronted}
use Rattle.format.specs.Bytes.{bytes_at, same_bytes}
use Rattle.format.specs.Marks.{TR}
use Rattle.order.specs.Table.{entry_at}
use Rattle.policy_file.proofs.Front.{Agree, agree_order, front_agrees}
use Rattle.policy_file.proofs.Verdict.{bounds}
use Rattle.policy_file.specs.File.{count_of}
use Rattle.policy_file.specs.Whole.{policy_refusal, label_count}
use Rattle.policy_file.specs.declared.Policy.{Policy}
use Rattle.trees.proofs.Sums.{sum_cong}
use Rattle.trees.proofs.Tables.{SameCounts, SameTests, plan_agree, total_agree}
use Rattle.trees.specs.Weights.{label_keys, total, least}
use Rattle.plan_answers.proofs.TreeChecks.{number_foreign, number_length}
use Rattle.plan_answers.proofs.WeighAnswer.{weigh_policy_refused, weigh_tree_refused}
use Rattle.plan_answers.proofs.WorkedTables.{planned_agree}
use Rattle.plan_answers.specs.Planned.{at_or_below, planned, plan_of}
use Rattle.plan_answers.specs.TreeFile.{parent_in, tree_refusal}
use Rattle.plan_answers.specs.Weighing.{weigh_refusal, refused_weighed, tree_weighed, weigh_of}

-- ---- the policy

-- of the accounts only those of labels matter
module _ {n : ℕ} {count count' : ℕ → ℕ} (c : SameCounts n count count') (le : ℕ → ℕ → Bool) where
  same_tests : SameTests n le le
  same_tests m l hm hl = refl

  total_counts : (parent : ℕ → ℕ) → total n count le parent ≡ total n count' le parent
  unfolding total label_keys
  total_counts parent = sum_cong (label_keys n count le parent) (label_keys n count' le parent) n (λ l h. rw (c l h))

  weighed_counts : (parent : ℕ → ℕ) → tree_weighed n count le parent ≡ tree_weighed n count' le parent
  unfolding tree_weighed least
  weighed_counts parent = rw (total_counts parent, total_agree c same_tests (plan_agree c same_tests))

module _ (a b : List ℕ) (same : Agree a b) where
  counts_same : SameCounts (label_count b) (count_of a) (count_of b)
  counts_same l h = same.counts l (omega (arith, (bounds b).0))

  pub test_same : at_or_below a ≡ at_or_below b
  test_same = ap entry_at (agree_order a b same)

  pub agree_plan : plan_of a ≡ plan_of b
  unfolding plan_of
  agree_plan =
      ap₂ (λ (s : Policy) (le : ℕ → ℕ → Bool). planned s.refusal s.labels (count_of a) le) same.verdict test_same
      ∙ planned_agree counts_same (same_tests counts_same (at_or_below b)) (policy_refusal b)

  module _ (tree : List ℕ) where
    number_same : weigh_refusal a tree ≡ weigh_refusal b tree
    unfolding weigh_refusal
    number_same =
        ap₂ (λ (s : Policy) (le : ℕ → ℕ → Bool). cond (eqb s.refusal 0) (tree_refusal s.labels le tree) s.refusal) same.verdict test_same

    offered_same : tree_weighed (label_count a) (count_of a) (at_or_below a) (parent_in tree) ≡ tree_weighed (label_count b) (count_of b) (at_or_below b) (parent_in tree)
    offered_same =
        ap₂ (λ (s : Policy) (le : ℕ → ℕ → Bool). tree_weighed s.labels (count_of a) le (parent_in tree)) same.verdict test_same
        ∙ weighed_counts counts_same (at_or_below b) (parent_in tree)

    pub agree_weighed : weigh_of a tree ≡ weigh_of b tree
    unfolding weigh_of
    agree_weighed = rw (number_same, offered_same)

-- any front part of at least 2,828 bytes
module _ (n : ℕ) (enough : 2828 ≤ n) (policy : List ℕ) where
  pub plan_front : plan_of policy ≡ plan_of (take n policy)
  plan_front = agree_plan policy (take n policy) (front_agrees n enough policy)

  pub weigh_front : (tree : List ℕ) → weigh_of policy tree ≡ weigh_of (take n policy) tree
  weigh_front tree = agree_weighed policy (take n policy) (front_agrees n enough policy) tree

-- ---- the tree file

-- a file of at least 67 bytes is refused by its mark or by its length
module _ (n : ℕ) (le : ℕ → ℕ → Bool) (few : n ≤ 64) (front back : List ℕ) (long : 67 ≤ length front) where
  longer : 67 ≤ length (front ++ back)
  longer = simp length-append (omega arith)

  mark_same : bytes_at (front ++ back) 0 2 ≡ bytes_at front 0 2
  mark_same = front_bytes front back 0 2 (omega arith)

  long_number : (number : ℕ) × (0 < number) × (tree_refusal n le (front ++ back) ≡ number) × (tree_refusal n le front ≡ number)
  long_number = go (same_bytes (bytes_at front 0 2) TR) refl
    where
      go : (t : Bool) → same_bytes (bytes_at front 0 2) TR ≡ t
          → (number : ℕ) × (0 < number) × (tree_refusal n le (front ++ back) ≡ number) × (tree_refusal n le front ≡ number)
      go true e = (
        11,
        omega arith,
        number_length n le (front ++ back) (omega (arith, longer)) (rw mark_same e) (λ w. omega (arith, longer)),
        number_length n le front (omega arith) e (λ w. omega arith),
      )
      go false e =
          (2, omega arith, number_foreign n le (front ++ back) (omega (arith, longer)) (rw mark_same e), number_foreign n le front (omega arith) e)

tree_same : (policy front back : List ℕ) → 67 ≤ length front → weigh_of policy (front ++ back) ≡ weigh_of policy front
tree_same policy front back long = go (ℕ_discrete (policy_refusal policy) 0)
  where
    go : Dec (policy_refusal policy ≡ 0) → weigh_of policy (front ++ back) ≡ weigh_of policy front
    go (yes ok) =
        let r = long_number (label_count policy) (at_or_below policy) (bounds policy).0 front back long in
        let some : 0 < r.0 = r.1 in
        let whole : tree_refusal (label_count policy) (at_or_below policy) (front ++ back) ≡ r.0 = r.2 in
        let part : tree_refusal (label_count policy) (at_or_below policy) front ≡ r.0 = r.3 in
        weigh_tree_refused policy (front ++ back) ok (omega arith) ∙ ap refused_weighed (whole ∙ sym part) ∙ sym (weigh_tree_refused policy front ok (omega arith))
    go (no d) = weigh_policy_refused policy (front ++ back) (omega arith) ∙ sym (weigh_policy_refused policy front (omega arith))

-- any front part of at least 67 bytes
pub weigh_tree_front : (n : ℕ) → 67 ≤ n → (policy tree : List ℕ) → weigh_of policy tree ≡ weigh_of policy (take n tree)
weigh_tree_front n enough policy tree = fronted 67 (weigh_of policy) (tree_same policy) n enough tree
