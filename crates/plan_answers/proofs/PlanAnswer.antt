-- What `plan_policy` answers for a policy file: demand 3's "The plan's own tree is a derivation tree of the policy that hangs so, and the total
-- answered with it is the fewest" of the tables in the answer, and zeros for a refused file.
use Prim.Native.Nat.{ℕ, ◌+◌, ◌^◌, ◌≤◌, ◌<◌}
use mathlib.Core.Bool.{Bool, not}
use mathlib.Core.List.{List}
use mathlib.Core.Logic.{◌≢◌}
use mathlib.Core.Path.{◌≡◌, refl, sym, ap, ap₂, subst, ◌∙◌}
use native.Mathlib.Omega.{arith}
use borrow.Author.Tests.{eqb-false, not-true}
use lib.Dec.{eqb}
use lib.ListN.{length, get_or}
use Rattle.lists.specs.Tables.{listed}
use Rattle.order.specs.Order.{AtOrBelow}
use Rattle.policy_file.proofs.Demand1.{refused_zeros}
use Rattle.policy_file.proofs.Lawful.{count_small}
use Rattle.policy_file.proofs.Verdict.{bounds}
use Rattle.policy_file.specs.File.{count_of}
use Rattle.policy_file.specs.Whole.{policy_refusal, label_count, pairs_of, AcceptedPolicy}
use Rattle.policy_file.specs.declared.Policy.{Policy}
use Rattle.trees.proofs.Covering.{plan_covers}
use Rattle.trees.proofs.Fewest.{hangs_tree, least_fewest, plan_hangs}
use Rattle.trees.proofs.Sums.{sum_apart, sum_where_where}
use Rattle.trees.proofs.Tables.{SameParents, total_agree, smallest_agree}
use Rattle.trees.proofs.Ties.{plan_preferred}
use Rattle.trees.proofs.Totals.{total_weights}
use Rattle.trees.proofs.Widths.{total_bound}
use Rattle.trees.specs.Order.{Order}
use Rattle.trees.specs.Sums.{sum, sum_where}
use Rattle.trees.specs.Trees.{top, Covers, Tree, Fewest}
use Rattle.trees.specs.Weights.{weight, smallest, total, weights, plan, LeastWeight, HangsLeast, Preferred}
use Rattle.weights.proofs.Reading.{entries_filled, entries_past, held_weight_top, held_weight_under, entries_weight, entries_weight_past, entries_size, entries_size_past}
use Rattle.weights.specs.Tables.{entries, weight_table, set_size, size_table}
use Rattle.plan_answers.proofs.PolicyOrder.{policy_order}
use Rattle.plan_answers.specs.Planned.{at_or_below, planned, plan_of, refused_plan}

-- ---- an accepted policy

module _ (file : List ℕ) (ok : AcceptedPolicy file) where
  abbrev n : ℕ
  n = label_count file

  abbrev count : ℕ → ℕ
  count = count_of file

  abbrev R : ℕ → ℕ → Type 0
  R = AtOrBelow (pairs_of file)

  abbrev le : ℕ → ℕ → Bool
  le = at_or_below file

  -- the tree that is defined, and the table in the answer
  abbrev tree : ℕ → ℕ
  tree = plan n count le

  abbrev parents : ℕ → ℕ
  parents = entries (plan_of file).parents

  order : Order n R le
  order = policy_order file ok

  -- the tree hangs from parents of least weight
  tree_hangs : HangsLeast n count R le tree
  tree_hangs = plan_hangs order count

  -- and the table holds it
  parents_same : SameParents n tree parents
  unfolding plan_of planned
  parents_same = record {
    labels = λ m hm ne. (tree_hangs.hangs m hm ne).above.label;
    agree = λ m hm ne. sym (entries_filled tree n m hm);
  }

  -- "every label under the top hangs from a parent of least weight among the labels above it"
  pub plan_answer_hangs : HangsLeast n count R le parents
  plan_answer_hangs = record {
    hangs = λ m hm ne. subst (λ (p : ℕ). LeastWeight n count R le p m) (parents_same.agree m hm ne) (tree_hangs.hangs m hm ne);
  }

  -- "The plan's own tree is a derivation tree of the policy"
  pub plan_answer_tree : Tree n R parents
  plan_answer_tree = hangs_tree plan_answer_hangs

  -- 02, Ask 1: "Of several parents of least weight the plan shall take the one with the highest number"
  pub plan_answer_preferred : (m : ℕ) → m < n → m ≢ top → (q : ℕ) → LeastWeight n count R le q m → Preferred (parents m) q
  plan_answer_preferred m hm ne q L = subst (λ (p : ℕ). Preferred p q) (parents_same.agree m hm ne) (plan_preferred order count hm ne q L)

  -- 02, Ask 1: "Every chosen parent then covers its child"
  pub plan_answer_covers : (m : ℕ) → m < n → m ≢ top → Covers n R (parents m) m
  plan_answer_covers m hm ne = subst (λ (p : ℕ). Covers n R p m) (parents_same.agree m hm ne) (plan_covers order count m hm ne)

  -- the total answered is that of the tree
  pub plan_answer_total : (plan_of file).total ≡ total n count le parents
  unfolding plan_of planned
  plan_answer_total = total_agree (λ l hl. refl) (λ m l hm hl. refl) parents_same

  -- "and the total answered with it is the fewest"
  pub plan_answer_fewest : Fewest n count R (plan_of file).total
  plan_answer_fewest = rw plan_answer_total (least_fewest order count plan_answer_hangs)

  -- 01: "weight (for the top its accounts), keys held by one account"
  pub plan_answer_weights : (m : ℕ) → m < n → m ≢ top → entries (plan_of file).weights m ≡ weight n count le (parents m) m
  unfolding plan_of planned
  plan_answer_weights m hm ne =
      entries_weight n count le tree m hm
      ∙ held_weight_under n count le tree m ne
      ∙ ap (λ (p : ℕ). weight n count le p m) (parents_same.agree m hm ne)

  pub plan_answer_top_weight : entries (plan_of file).weights top ≡ count top
  unfolding plan_of planned
  plan_answer_top_weight = entries_weight n count le tree top order.some ∙ held_weight_top n count le tree top refl

  pub plan_answer_sizes : (l : ℕ) → l < n → entries (plan_of file).sizes l ≡ length (smallest n le parents l)
  unfolding plan_of planned set_size
  plan_answer_sizes l hl =
      entries_size n le tree l hl
      ∙ ap (length {A = ℕ}) (smallest_agree {count = count} {count' = count} (λ l hl. refl) (λ m l hm hl. refl) parents_same l hl)

  -- 01: "It equals the top's accounts plus the weights of all chosen parents."
  pub plan_answer_sum : (plan_of file).total ≡ sum (entries (plan_of file).weights) n
  unfolding weights
  plan_answer_sum =
      plan_answer_total
      ∙ total_weights order count parents
      ∙ ap₂ ◌+◌ (sym plan_answer_top_weight) (sym others)
      ∙ sym (sum_apart (entries (plan_of file).weights) top n order.some)
    where
      others : sum_where (λ m. not (eqb m top)) (entries (plan_of file).weights) n ≡ sum_where (λ m. not (eqb m top)) (λ m. weight n count le (parents m) m) n
      others =
          sum_where_where (λ m. not (eqb m top)) (entries (plan_of file).weights) (λ m. weight n count le (parents m) m) n
          (λ m hm y. plan_answer_weights m hm (eqb-false m top (not-true (eqb m top) y)))

-- ---- every file

module _ (file : List ℕ) where
  abbrev tree_of : ℕ → ℕ
  tree_of = plan (label_count file) (count_of file) (at_or_below file)

  -- entries past the label count are 0
  pub plan_answer_past : (m : ℕ) → label_count file ≤ m
      → (entries (plan_of file).parents m ≡ 0) × (entries (plan_of file).weights m ≡ 0) × (entries (plan_of file).sizes m ≡ 0)
  unfolding plan_of planned
  plan_answer_past m h = (
    entries_past tree_of (label_count file) m h,
    entries_weight_past (label_count file) (count_of file) (at_or_below file) tree_of m h,
    entries_size_past (label_count file) (at_or_below file) tree_of m h,
  )

  -- a total has its place in 32 bits, with room to spare
  pub plan_total_small : ((i : ℕ) → get_or file i 0 < 256) → (plan_of file).total < 2 ^ 28
  unfolding plan_of planned
  plan_total_small bytes =
      total_bound (label_count file) (bounds file).0 (at_or_below file) (count_of file) (λ l hl. omega (arith, count_small file bytes l)) tree_of

  pub no_labels : 0 < policy_refusal file → label_count file ≡ 0
  no_labels h = ap (λ (p : Policy). p.labels) (refused_zeros file h)

  -- "With a refusal every number in the answer is 0"
  pub plan_refused : 0 < policy_refusal file → plan_of file ≡ refused_plan (policy_refusal file)
  unfolding plan_of planned weight_table size_table listed total sum
  plan_refused h = rw (no_labels h)
