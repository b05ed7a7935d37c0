-- Weights, smallest sets, totals, the plan and the answers depend on counts, order and parents of labels below n alone: what a table gives
-- past its labels does not matter.
use Prim.Native.Nat.{ℕ, zero, suc, ◌*◌, ◌≤◌, ◌<◌}
use mathlib.Core.Path.{◌≡◌, refl, ap₂}
use mathlib.Core.Logic.{◌⊎◌, inl, inr, ◌≢◌}
use mathlib.Core.Bool.{Bool, not, ◌&&◌, ◌||◌}
use mathlib.Core.List.{List}
use native.Mathlib.Omega.{arith}
use lib.ListN.{length}
use lib.Dec.{eqb}
use borrow.Author.Tests.{eq-eqb, ne_eqb}
use Rattle.trees.specs.Trees.{top}
use Rattle.trees.specs.Weights.{weighed, weight, in_smallest, smallest, label_keys, total, best, plan, least}
use Rattle.trees.proofs.Sums.{sum_cong, sum_where_cong}
use Rattle.trees.proofs.Select.{select_cong}
use Rattle.trees.proofs.Order.{is_top}
use Rattle.trees.proofs.Ties.{best_early}

-- functions that agree below n
abbrev pub SameCounts : (n : ℕ) (count count' : ℕ → ℕ) → Type 0
SameCounts n count count' = (l : ℕ) → l < n → count l ≡ count' l

abbrev pub SameTests : (n : ℕ) (le le' : ℕ → ℕ → Bool) → Type 0
SameTests n le le' = (m l : ℕ) → m < n → l < n → le m l ≡ le' m l

-- parents that are labels and agree under the top
pub record SameParents (n : ℕ) (parent parent' : ℕ → ℕ) : Type 0 where
  pub labels : (m : ℕ) → m < n → m ≢ top → parent m < n
  pub agree : (m : ℕ) → m < n → m ≢ top → parent m ≡ parent' m

-- ---- weights and the plan

module _ {n : ℕ} {count count' : ℕ → ℕ} {le le' : ℕ → ℕ → Bool} (c : SameCounts n count count') (h : SameTests n le le') where
  pub weighed_agree : (p m l : ℕ) → p < n → m < n → l < n → weighed le p m l ≡ weighed le' p m l
  unfolding weighed
  weighed_agree p m l hp hm hl = simp h

  pub weight_agree : (p m : ℕ) → p < n → m < n → weight n count le p m ≡ weight n count' le' p m
  unfolding weight
  weight_agree p m hp hm = sum_where_cong (weighed le p m) (weighed le' p m) count count' n (λ l hl. weighed_agree p m l hp hm hl) c

  best_agree : (m : ℕ) → m < n → (k : ℕ) → k ≤ m → best n count le m k ≡ best n count' le' m k
  unfolding best
  best_agree m hm zero hk = refl
  best_agree m hm (suc p) hk =
      let b = best n count le m p in
      let same : b ≡ best n count' le' m p = best_agree m hm p (omega arith) in
      let hb : b < n = omega (arith, best_early n count le m p) in
      let hp : p < n = omega arith in
      rw (← same, ← (weight_agree p m hp hm), ← (weight_agree b m hb hm), ← (h m p hm hp)) refl

  pub plan_same : (m : ℕ) → m < n → plan n count le m ≡ plan n count' le' m
  unfolding plan
  plan_same m hm = best_agree m hm m (omega arith)

  pub plan_agree : SameParents n (plan n count le) (plan n count' le')
  unfolding plan
  plan_agree = record { labels = λ m hm ne. omega (arith, best_early n count le m m); agree = λ m hm ne. plan_same m hm }

  -- ---- smallest sets, totals and the answer

  module _ {parent parent' : ℕ → ℕ} (P : SameParents n parent parent') where
    pub in_smallest_agree : (l m : ℕ) → l < n → m < n → in_smallest le parent l m ≡ in_smallest le' parent' l m
    unfolding in_smallest
    in_smallest_agree l m hl hm = go (is_top m)
      where
        go : (m ≡ top) ⊎ (m ≢ top) → (le m l && (eqb m top || not (le (parent m) l))) ≡ (le' m l && (eqb m top || not (le' (parent' m) l)))
        go (inl q) = rw (eq-eqb m top q, h m l hm hl)
        go (inr ne) = rw (ne_eqb m top ne, ← (P.agree m hm ne), h m l hm hl, h (parent m) l (P.labels m hm ne) hl)

    pub smallest_agree : (l : ℕ) → l < n → smallest n le parent l ≡ smallest n le' parent' l
    unfolding smallest
    smallest_agree l hl = select_cong (in_smallest le parent l) (in_smallest le' parent' l) n (λ m hm. in_smallest_agree l m hl hm)

    pub label_keys_agree : (l : ℕ) → l < n → label_keys n count le parent l ≡ label_keys n count' le' parent' l
    unfolding label_keys
    label_keys_agree l hl = ap₂ (λ (k : ℕ) (s : List ℕ). k * length s) (c l hl) (smallest_agree l hl)

    pub total_agree : total n count le parent ≡ total n count' le' parent'
    unfolding total
    total_agree = sum_cong (label_keys n count le parent) (label_keys n count' le' parent') n label_keys_agree

  pub least_agree : {parent parent' : ℕ → ℕ} → SameParents n parent parent' → least n count le parent ≡ least n count' le' parent'
  unfolding least
  least_agree P = ap₂ eqb (total_agree P) (total_agree plan_agree)
