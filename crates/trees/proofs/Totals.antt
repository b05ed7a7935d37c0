-- A tree's total is the top's accounts plus the weights of all parents (003: Theorem 2), is enough under that tree, and no assignment
-- under it needs fewer.
use Prim.Native.Nat.{ℕ, ◌+◌, ◌*◌, ◌≤◌, ◌<◌}
use mathlib.Core.Path.{◌≡◌, refl, ap, ap₂, sym, ◌∙◌}
use mathlib.Core.Logic.{◌⊎◌, inl, inr, ◌≢◌}
use mathlib.Core.Bool.{Bool, true, false, cond, not}
use mathlib.Core.List.{List}
use native.Mathlib.Nat.{mul-zero, mul-one}
use native.Mathlib.Omega.{arith}
use lib.ListN.{length}
use lib.Dec.{eqb}
use borrow.Author.Tests.{eq-eqb, ne_eqb, eqb-false, not-true}
use Rattle.trees.specs.Sums.{sum, sum_where}
use Rattle.trees.specs.Trees.{top, Tree, Assignment, keys, Scheme}
use Rattle.trees.specs.Order.{Order}
use Rattle.trees.specs.Weights.{weighed, weight, in_smallest, smallest, label_keys, total, weights}
use Rattle.trees.proofs.Sums.{sum_cong, sum_mono, sum_mul, sum_swap, sum_const, sum_zero, sum_apart, sum_where_sum, sum_where_cong, sum_where_where}
use Rattle.trees.proofs.Select.{select_length}
use Rattle.trees.proofs.Order.{is_top, test_yes, test_no, over_top}
use Rattle.trees.proofs.Smallest.{smallest_sufficient, smallest_shortest}

-- the size of a smallest set, as a loop counts it
pub smallest_size : (n : ℕ) (le : ℕ → ℕ → Bool) (parent : ℕ → ℕ) (l : ℕ) → length (smallest n le parent l) ≡ sum_where (in_smallest le parent l) (λ m. 1) n
unfolding smallest
smallest_size n le parent l = select_length (in_smallest le parent l) n

-- accounts times size, as the sum of the accounts over the set
label_keys_sum : (n : ℕ) (count : ℕ → ℕ) (le : ℕ → ℕ → Bool) (parent : ℕ → ℕ) (l : ℕ)
    → label_keys n count le parent l ≡ sum (λ m. cond (in_smallest le parent l m) (count l) 0) n
unfolding label_keys
label_keys_sum n count le parent l =
    ap (λ (s : ℕ). count l * s) (smallest_size n le parent l ∙ sum_where_sum (in_smallest le parent l) (λ m. 1) n)
    ∙ sum_mul (count l) (λ m. cond (in_smallest le parent l m) 1 0) n
    ∙ sum_cong (λ m. count l * cond (in_smallest le parent l m) 1 0) (λ m. cond (in_smallest le parent l m) (count l) 0) n (λ m h. one (in_smallest le parent l m))
  where
    one : (b : Bool) → count l * cond b 1 0 ≡ cond b (count l) 0
    one true = mul-one (count l)
    one false = mul-zero (count l)

-- the accounts that hold the secret of label m
unfoldable pub holders : (n : ℕ) (count : ℕ → ℕ) (le : ℕ → ℕ → Bool) (parent : ℕ → ℕ) (m : ℕ) → ℕ
holders n count le parent m = sum_where (λ l. in_smallest le parent l m) count n

-- the total, counted by the labels held instead of by the labels of the accounts
pub total_holders : (n : ℕ) (count : ℕ → ℕ) (le : ℕ → ℕ → Bool) (parent : ℕ → ℕ) → total n count le parent ≡ sum (holders n count le parent) n
unfolding total holders
total_holders n count le parent =
    sum_cong (label_keys n count le parent) (λ l. sum (λ m. cond (in_smallest le parent l m) (count l) 0) n) n (λ l h. label_keys_sum n count le parent l)
    ∙ sum_swap (λ l m. cond (in_smallest le parent l m) (count l) 0) n n
    ∙ sum_cong (λ m. sum (λ l. cond (in_smallest le parent l m) (count l) 0) n) (holders n count le parent) n (λ m h. sym (sum_where_sum (λ l. in_smallest le parent l m) count n))

-- the secret of a label under the top is held by the accounts that its parent's weight counts (003: |φ(x)| counts the arcs e with x in γ(e))
pub holders_weight : (n : ℕ) (count : ℕ → ℕ) (le : ℕ → ℕ → Bool) (parent : ℕ → ℕ) (m : ℕ) → m ≢ top → holders n count le parent m ≡ weight n count le (parent m) m
unfolding holders weight in_smallest weighed
holders_weight n count le parent m ne =
    sum_where_cong (λ l. in_smallest le parent l m) (weighed le (parent m) m) count _ n
    (λ l h. rw (ne_eqb m top ne))
    (λ l h. refl)

-- the smallest sets, given to every account, issue the total
pub smallest_keys : (n : ℕ) (count : ℕ → ℕ) (le : ℕ → ℕ → Bool) (parent : ℕ → ℕ) → keys n count (λ l a. smallest n le parent l) ≡ total n count le parent
unfolding keys total label_keys
smallest_keys n count le parent =
    sum_cong (λ l. sum (λ a. length (smallest n le parent l)) (count l)) (label_keys n count le parent) n
    (λ l h. sum_const (length (smallest n le parent l)) (count l))

module _ {n : ℕ} {R : ℕ → ℕ → Type 0} {le : ℕ → ℕ → Bool} (O : Order n R le) (count : ℕ → ℕ) where
  -- the top's secret is held by the top's accounts
  pub holders_top : (parent : ℕ → ℕ) → holders n count le parent top ≡ count top
  unfolding holders in_smallest
  holders_top parent =
      sum_where_sum (λ l. in_smallest le parent l top) count n
      ∙ sum_apart (λ l. cond (in_smallest le parent l top) (count l) 0) top n O.some
      ∙ ap₂ ◌+◌ here elsewhere
      ∙ omega arith
    where
      here : cond (in_smallest le parent top top) (count top) 0 ≡ count top
      here = rw (test_yes O O.some O.some (O.same top O.some))

      away : (l : ℕ) → l < n → cond (not (eqb l top)) (cond (in_smallest le parent l top) (count l) 0) 0 ≡ 0
      away l hl = go (is_top l)
        where
          go : (l ≡ top) ⊎ (l ≢ top) → cond (not (eqb l top)) (cond (in_smallest le parent l top) (count l) 0) 0 ≡ 0
          go (inl q) = rw (eq-eqb l top q)
          go (inr ne) = rw (ne_eqb l top ne, test_no O O.some hl (λ r. ne (over_top O hl r)))

      elsewhere : sum_where (λ i. not (eqb i top)) (λ l. cond (in_smallest le parent l top) (count l) 0) n ≡ 0
      elsewhere =
          sum_where_sum (λ i. not (eqb i top)) (λ l. cond (in_smallest le parent l top) (count l) 0) n
          ∙ sum_zero (λ l. cond (not (eqb l top)) (cond (in_smallest le parent l top) (count l) 0) 0) n away

  -- "It equals the top's accounts plus the weights of all chosen parents." (003: Theorem 2 and the first line of Theorem 3's proof)
  pub total_weights : (parent : ℕ → ℕ) → total n count le parent ≡ count top + weights n count le parent
  unfolding weights
  total_weights parent =
      total_holders n count le parent
      ∙ sum_apart (holders n count le parent) top n O.some
      ∙ ap₂ ◌+◌ (holders_top parent) others
    where
      others : sum_where (λ m. not (eqb m top)) (holders n count le parent) n ≡ sum_where (λ m. not (eqb m top)) (λ m. weight n count le (parent m) m) n
      others =
          sum_where_where (λ m. not (eqb m top)) (holders n count le parent) (λ m. weight n count le (parent m) m) n
          (λ m h y. holders_weight n count le parent m (eqb-false m top (not-true (eqb m top) y)))

  module _ {parent : ℕ → ℕ} (T : Tree n R parent) where
    -- the smallest sets are an assignment
    pub smallest_assigned : Assignment n count R parent (λ l a. smallest n le parent l)
    smallest_assigned = record { sufficient = λ l a hl ha. smallest_sufficient O T hl }

    -- so the total is enough
    pub total_enough : Scheme n count R (total n count le parent)
    total_enough = record { parent = parent; sets = λ l a. smallest n le parent l; tree = T; assigned = smallest_assigned; issues = smallest_keys n count le parent }

    -- and no assignment under the tree issues fewer
    pub total_needed : (sets : ℕ → ℕ → List ℕ) → Assignment n count R parent sets → total n count le parent ≤ keys n count sets
    unfolding keys
    total_needed sets A = rw (← (smallest_keys n count le parent))
        (sum_mono (λ l. sum (λ a. length (smallest n le parent l)) (count l)) (λ l. sum (λ a. length (sets l a)) (count l)) n
        (λ l hl. sum_mono (λ a. length (smallest n le parent l)) (λ a. length (sets l a)) (count l) (λ a ha. smallest_shortest O T hl (sets l a) (A.sufficient l a hl ha))))
