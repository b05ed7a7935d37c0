-- From what is worked out, over the counts of `read_policy`'s answer, to what the definitions say of the file.
use Prim.Native.Nat.{ℕ, ◌≤◌, ◌<◌}
use mathlib.Core.Bool.{Bool, true, false}
use mathlib.Core.List.{List}
use mathlib.Core.Logic.{◌⊎◌, inl, inr}
use mathlib.Core.Path.{◌≡◌, refl, sym, ap, ◌∙◌}
use native.Mathlib.Omega.{arith}
use borrow.Author.Tests.{ltb-true, ltb-false, eq-eqb}
use lib.Dec.{eqb, ltb}
use lib.ListN.{replicate, take}
use Rattle.lists.specs.Tables.{filled}
use Rattle.lists.proofs.Listed.{filled_same}
use Rattle.order.specs.Order.{AtOrBelow}
use Rattle.order.specs.Table.{order_table, entry_at}
use Rattle.policy_file.proofs.Answer.{counts_at, over_order}
use Rattle.policy_file.proofs.Verdict.{bounds}
use Rattle.policy_file.specs.File.{count_of}
use Rattle.policy_file.specs.Whole.{policy_refusal, label_count, pairs_of, AcceptedPolicy, order_of, policy_of}
use Rattle.policy_file.specs.declared.Policy.{Policy}
use Rattle.trees.proofs.Order.{is_top}
use Rattle.trees.proofs.Tables.{SameCounts, SameTests, SameParents, plan_same, plan_agree, total_agree, least_agree}
use Rattle.trees.specs.Weights.{total, plan, least}
use Rattle.weights.proofs.Agree.{weight_table_agree, size_table_agree, plan_total_lem}
use Rattle.weights.proofs.Reading.{entries_filled, plan_early, entries_parent, entries_parent_past, parent_plan}
use Rattle.weights.specs.Tables.{entries, parent_table, weight_table, size_table, key_total, Rowed}
use Rattle.plan_answers.proofs.PolicyOrder.{policy_order}
use Rattle.plan_answers.proofs.TreeNumbers.{tree_accepted}
use Rattle.plan_answers.specs.Planned.{at_or_below, planned, plan_of}
use Rattle.plan_answers.specs.TreeFile.{parent_in, tree_refusal}
use Rattle.plan_answers.specs.TreeRows.{GivesTree}
use Rattle.plan_answers.specs.Weighing.{weigh_refusal, tree_weighed, weigh_of}

-- a table of chosen parents has a row for each entry
pub table_rowed : (k : ℕ) (count : ℕ → ℕ) (le : ℕ → ℕ → Bool) (n : ℕ) → k ≤ 64 → Rowed n (parent_table k count le)
table_rowed k count le n few m hm = go (ltb m k) refl
  where
    go : (b : Bool) → ltb m k ≡ b → entries (parent_table k count le) m < 64
    go true e = omega (arith, ltb-true m k e, entries_parent k count le m (ltb-true m k e), plan_early k count le m)
    go false e = omega (arith, entries_parent_past k count le m (ltb-false m k e))

-- ---- labels, accounts and the order's test

module _ (n : ℕ) (count : ℕ → ℕ) (le : ℕ → ℕ → Bool) where
  abbrev chosen : ℕ → ℕ
  chosen = entries (parent_table n count le)

  same_tests : SameTests n le le
  same_tests m l hm hl = refl

  -- sizes and total are those of the tree that the table of parents holds
  pub worked_plan : (refusal : ℕ) → record {
    refusal = refusal;
    zeros = replicate 3 0;
    total = key_total n count (entries (size_table n le chosen));
    labels = n;
    parents = parent_table n count le;
    weights = weight_table n count le (plan n count le);
    sizes = size_table n le chosen;
  } ≡ planned refusal n count le
  unfolding planned parent_table
  worked_plan refusal = rw (plan_total_lem n count le, size_table_agree same_tests (parent_plan n count le))

  -- an offered tree's total beside that of the chosen parents
  pub worked_answer : (parent : ℕ → ℕ) (t f : ℕ) → t ≡ total n count le parent → f ≡ total n count le chosen
      → record { refusal = 0; least = eqb t f; zeros = replicate 2 0; total = t } ≡ tree_weighed n count le parent
  unfolding tree_weighed least
  worked_answer parent t f et ef =
      let same : f ≡ total n count le (plan n count le) = ef ∙ total_agree {count = count} {count' = count} (λ l h. refl) same_tests (parent_plan n count le) in
      rw (et, same)

-- only the accounts of labels matter, the order of labels and their parents
module _ {n : ℕ} {count count' : ℕ → ℕ} {le le' : ℕ → ℕ → Bool} (c : SameCounts n count count') (h : SameTests n le le') where
  pub planned_agree : (refusal : ℕ) → planned refusal n count le ≡ planned refusal n count' le'
  unfolding planned plan
  planned_agree refusal =
      rw (
        filled_same 64 0 (plan n count le) (plan n count' le') n (plan_same c h),
        weight_table_agree c h (plan_agree c h),
        size_table_agree h (plan_agree c h),
        total_agree c h (plan_agree c h),
      )

  pub weighed_agree : {parent parent' : ℕ → ℕ} → SameParents n parent parent' → tree_weighed n count le parent ≡ tree_weighed n count' le' parent'
  unfolding tree_weighed
  weighed_agree P = rw (total_agree c h P, least_agree c h P)

-- ---- a policy file

module _ (file : List ℕ) where
  abbrev n : ℕ
  n = label_count file

  abbrev le : ℕ → ℕ → Bool
  le = at_or_below file

  -- the accounts as they are read
  abbrev pub read_counts : ℕ → ℕ
  read_counts = entries (policy_of file).counts

  -- what is read, and the order's table that is worked out of it
  module _ {p : Policy} (same : p ≡ policy_of file) where
    pub read_few : p.labels ≤ 64
    read_few = rw same (bounds file).0

    pub read_accepted : p.refusal ≡ 0 → AcceptedPolicy file
    read_accepted e = sym (ap (λ (q : Policy). q.refusal) same) ∙ e

    module _ {rows : List (List Bool)} (table : rows ≡ order_table p.labels (take p.pairs p.over)) where
      pub read_order : rows ≡ order_of file
      read_order = table ∙ ap (λ (q : Policy). order_table q.labels (take q.pairs q.over)) same ∙ over_order file

      pub read_number : (tree : List ℕ) {number : ℕ} → number ≡ tree_refusal p.labels (entry_at rows) tree → number ≡ tree_refusal n le tree
      read_number tree e = e ∙ rw (read_order, same)

  same_counts : SameCounts n read_counts (count_of file)
  same_counts = counts_at file

  pub read_plan : planned (policy_refusal file) n read_counts le ≡ plan_of file
  unfolding plan_of
  read_plan = planned_agree same_counts (same_tests n read_counts le) (policy_refusal file)

  -- ---- an offered tree that is read

  module _ (ok : AcceptedPolicy file) (tree : List ℕ) (none : tree_refusal n le tree ≡ 0) where
    abbrev pub offered : List ℕ
    offered = filled 64 0 (parent_in tree) n

    pub gives : GivesTree n (AtOrBelow (pairs_of file)) tree
    gives = (tree_accepted (policy_order file ok) tree).0 none

    offered_tree : SameParents n (entries offered) (parent_in tree)
    offered_tree = record {
      labels = λ m hm ne. rw (entries_filled (parent_in tree) n m hm) (gives.hung.hangs m hm ne).label;
      agree = λ m hm ne. entries_filled (parent_in tree) n m hm;
    }

    pub offered_rowed : Rowed n offered
    offered_rowed m hm = rw (entries_filled (parent_in tree) n m hm) (go (is_top m))
      where
        go : (m ≡ 0) ⊎ (m ≡ 0 → ⊥) → parent_in tree m < 64
        go (inl e) = omega (arith, ap (parent_in tree) e ∙ gives.top_byte)
        go (inr ne) = omega (arith, (gives.hung.hangs m hm ne).label, (bounds file).0)

    pub read_weighed : tree_weighed n read_counts le (entries offered) ≡ weigh_of file tree
    unfolding weigh_of weigh_refusal
    read_weighed = rw (eq-eqb (policy_refusal file) 0 ok, none) (weighed_agree same_counts (same_tests n read_counts le) offered_tree)
