-- The tables and the total depend on accounts, order and parents of the labels alone: what is given past them does not matter.
-- The total of the sizes is the tree's.
use Prim.Native.Nat.{ℕ, ◌*◌, ◌<◌}
use mathlib.Core.Bool.{Bool}
use mathlib.Core.Logic.{◌⊎◌, inl, inr, ◌≢◌}
use mathlib.Core.Path.{◌≡◌, refl, sym, ap, ap₂, ◌∙◌}
use lib.ListN.{length}
use Rattle.lists.proofs.Listed.{filled_same}
use Rattle.trees.specs.Trees.{top}
use Rattle.trees.specs.Weights.{weight, label_keys, total, plan}
use Rattle.trees.proofs.Order.{is_top}
use Rattle.trees.proofs.Sums.{sum_cong}
use Rattle.trees.proofs.Tables.{SameCounts, SameTests, SameParents, weight_agree, smallest_agree, total_agree}
use Rattle.weights.specs.Tables.{entries, parent_table, held_weight, weight_table, set_size, size_table, account_keys, key_total}
use Rattle.weights.proofs.Reading.{parent_plan, held_weight_top, held_weight_under, entries_size}

pub key_total_total : (n : ℕ) (count : ℕ → ℕ) (le : ℕ → ℕ → Bool) (parent : ℕ → ℕ) → key_total n count (set_size n le parent) ≡ total n count le parent
unfolding key_total account_keys set_size total label_keys
key_total_total n count le parent = refl

pub key_total_agree : {n : ℕ} {count count' size size' : ℕ → ℕ} → SameCounts n count count' → SameCounts n size size' → key_total n count size ≡ key_total n count' size'
unfolding key_total account_keys
key_total_agree {n} {count} {count'} {size} {size'} c s = sum_cong (λ l. count l * size l) (λ l. count' l * size' l) n (λ l h. ap₂ ◌*◌ (c l h) (s l h))

module _ {n : ℕ} {count count' : ℕ → ℕ} {le le' : ℕ → ℕ → Bool} (c : SameCounts n count count') (h : SameTests n le le') where
  module _ {parent parent' : ℕ → ℕ} (P : SameParents n parent parent') where
    pub held_weight_agree : (m : ℕ) → m < n → held_weight n count le parent m ≡ held_weight n count' le' parent' m
    held_weight_agree m hm = go (is_top m)
      where
        go : (m ≡ top) ⊎ (m ≢ top) → held_weight n count le parent m ≡ held_weight n count' le' parent' m
        go (inl q) = held_weight_top n count le parent m q ∙ c top (rw q at hm) ∙ sym (held_weight_top n count' le' parent' m q)
        go (inr ne) =
            held_weight_under n count le parent m ne
            ∙ weight_agree c h (parent m) m (P.labels m hm ne) hm
            ∙ ap (λ (p : ℕ). weight n count' le' p m) (P.agree m hm ne)
            ∙ sym (held_weight_under n count' le' parent' m ne)

    pub weight_table_agree : weight_table n count le parent ≡ weight_table n count' le' parent'
    unfolding weight_table
    weight_table_agree = filled_same 64 0 (held_weight n count le parent) (held_weight n count' le' parent') n held_weight_agree

pub size_table_agree : {n : ℕ} {le le' : ℕ → ℕ → Bool} {parent parent' : ℕ → ℕ} → SameTests n le le' → SameParents n parent parent'
    → size_table n le parent ≡ size_table n le' parent'
unfolding size_table set_size
size_table_agree {n} {le} {le'} {parent} {parent'} h P =
    filled_same 64 0 (set_size n le parent) (set_size n le' parent') n (λ l hl. ap length (smallest_agree {count = λ k. 0} {count' = λ k. 0} (λ k hk. refl) h P l hl))

-- the total of the table of sizes is the tree's
pub sizes_total : (n : ℕ) (count : ℕ → ℕ) (le : ℕ → ℕ → Bool) (parent : ℕ → ℕ)
    → key_total n count (entries (size_table n le parent)) ≡ total n count le parent
sizes_total n count le parent = key_total_agree (λ l h. refl) (λ l h. entries_size n le parent l h) ∙ key_total_total n count le parent

-- the plan's total, from the plan's own tables
pub plan_total_lem : (n : ℕ) (count : ℕ → ℕ) (le : ℕ → ℕ → Bool)
    → key_total n count (entries (size_table n le (entries (parent_table n count le)))) ≡ total n count le (plan n count le)
plan_total_lem n count le =
    sizes_total n count le (entries (parent_table n count le)) ∙ total_agree (λ l h. refl) (λ m l hm hl. refl) (parent_plan n count le)
