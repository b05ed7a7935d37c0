-- Document 01's worked policies, computed, and the whole demand at policy E: its fewest is 17.
use Prim.Native.Nat.{ℕ, zero, suc, ◌<◌}
use mathlib.Core.Path.{◌≡◌, refl}
use mathlib.Core.Logic.{◌⊎◌, inl, inr}
use mathlib.Core.Bool.{Bool, true, false, not, ◌&&◌, ◌||◌}
use mathlib.Core.List.{List, [], ◌∷◌, map}
use native.Mathlib.Nat.{le_of_suc-le-suc, eq-or-lt_of_le}
use native.Mathlib.Omega.{arith}
use lib.ListN.{length, get_or}
use lib.Dec.{leb}
use borrow.Author.Tests.{leb-true}
use Rattle.trees.specs.Sums.{sum, sum_where, select}
use Rattle.trees.specs.Trees.{top, Fewest}
use Rattle.trees.specs.Order.{Order}
use Rattle.trees.specs.Weights.{weighed, weight, in_smallest, smallest, label_keys, total, takes, best, plan, least}
use Rattle.trees.specs.Growth.{one_more, plan_total, cost, below, ceiling}
use Rattle.trees.proofs.Lists.{not_both, both_yes}
use Rattle.trees.proofs.Fewest.{plan_fewest}

-- a number or an answer by its place in a table; row m of the order says of each l whether m is at or below it
abbrev pub at : List ℕ → ℕ → ℕ
at ns i = get_or ns i 0

abbrev pub table : List (List Bool) → ℕ → ℕ → Bool
table rows m l = get_or (get_or rows m []) l false

-- ---- policy E: SUITE 2, CURVES 3, CONV32 5, ACCRUED 4 with pairs 0-1, 0-2, 1-3, 2-3

unfoldable pub count_e : ℕ → ℕ
count_e = at (2 ∷ 3 ∷ 5 ∷ 4 ∷ [])

unfoldable pub le_e : ℕ → ℕ → Bool
le_e = table ((true ∷ []) ∷ (true ∷ true ∷ []) ∷ (true ∷ false ∷ true ∷ []) ∷ (true ∷ true ∷ true ∷ true ∷ []) ∷ [])

unfoldable pub labels : List ℕ
labels = 0 ∷ 1 ∷ 2 ∷ 3 ∷ []

-- "TOTAL 17", and the listing's columns: parents, weights under the top, keys held by one account
pub e_total : total 4 count_e le_e (plan 4 count_e le_e) ≡ 17
unfolding count_e le_e total label_keys plan best takes smallest in_smallest weight weighed sum sum_where select
e_total = refl

pub e_parents : map (plan 4 count_e le_e) labels ≡ 0 ∷ 0 ∷ 0 ∷ 2 ∷ []
unfolding count_e le_e labels plan best takes weight weighed sum_where
e_parents = refl

pub e_weights : map (λ m. weight 4 count_e le_e (plan 4 count_e le_e m) m) (1 ∷ 2 ∷ 3 ∷ []) ≡ 3 ∷ 5 ∷ 7 ∷ []
unfolding count_e le_e plan best takes weight weighed sum_where
e_weights = refl

pub e_sizes : map (λ l. length (smallest 4 le_e (plan 4 count_e le_e) l)) labels ≡ 1 ∷ 2 ∷ 1 ∷ 1 ∷ []
unfolding count_e le_e labels plan best takes smallest in_smallest weight weighed sum_where select
e_sizes = refl

-- "E under `TR` 0,0,0,1: 19. .. Under 0,0,0,0: 22." Neither is least.
pub e_offered : map (total 4 count_e le_e) (at (0 ∷ 0 ∷ 0 ∷ 1 ∷ []) ∷ at (0 ∷ 0 ∷ 0 ∷ 0 ∷ []) ∷ at (0 ∷ 0 ∷ 0 ∷ 2 ∷ []) ∷ []) ≡ 19 ∷ 22 ∷ 17 ∷ []
unfolding count_e le_e total label_keys smallest in_smallest sum select
e_offered = refl

pub e_answers : map (least 4 count_e le_e) (at (0 ∷ 0 ∷ 0 ∷ 1 ∷ []) ∷ at (0 ∷ 0 ∷ 0 ∷ 0 ∷ []) ∷ at (0 ∷ 0 ∷ 0 ∷ 2 ∷ []) ∷ []) ≡ false ∷ false ∷ true ∷ []
unfolding count_e le_e least total label_keys plan best takes smallest in_smallest weight weighed sum sum_where select
e_answers = refl

-- ---- "Chain A 1, B 0, C 4: A and B both weigh 4 for C", and by 02, Ask 1, C hangs from B. "Total 5."

unfoldable pub count_c : ℕ → ℕ
count_c = at (1 ∷ 0 ∷ 4 ∷ [])

unfoldable pub le_c : ℕ → ℕ → Bool
le_c = table ((true ∷ []) ∷ (true ∷ true ∷ []) ∷ (true ∷ true ∷ true ∷ []) ∷ [])

pub chain_weights : map (λ p. weight 3 count_c le_c p 2) (0 ∷ 1 ∷ []) ≡ 4 ∷ 4 ∷ []
unfolding count_c le_c weight weighed sum_where
chain_weights = refl

pub chain_parent : plan 3 count_c le_c 2 ≡ 1
unfolding count_c le_c plan best takes weight weighed sum_where
chain_parent = refl

pub chain_total : total 3 count_c le_c (plan 3 count_c le_c) ≡ 5
unfolding count_c le_c total label_keys plan best takes smallest in_smallest weight weighed sum sum_where select
chain_total = refl

-- ---- "Counting labels where accounts are meant": with one account at each label, CURVES and CONV32 tie for ACCRUED, and label 2 is taken. That is the
-- right parent in E, where the trap "no longer shows" (02, Ask 1). It shows in E with the two exchanged, SUITE 2, CONV32 5, CURVES 3, ACCRUED 4.

unfoldable pub count_x : ℕ → ℕ
count_x = at (2 ∷ 5 ∷ 3 ∷ 4 ∷ [])

pub exchanged_total : total 4 count_x le_e (plan 4 count_x le_e) ≡ 17
unfolding count_x le_e total label_keys plan best takes smallest in_smallest weight weighed sum sum_where select
exchanged_total = refl

pub labels_counted : map (λ count. total 4 count le_e (plan 4 (λ l. 1) le_e)) (count_e ∷ count_x ∷ []) ≡ 17 ∷ 19 ∷ []
unfolding count_e count_x le_e total label_keys plan best takes smallest in_smallest weight weighed sum sum_where select
labels_counted = refl

-- ---- 02, Ask 3: what one more account costs. In E it is 1 at the top, though all 4 labels are at or below that, and 2 at CURVES, with 2 at or below.

pub e_costs : map (cost 4 count_e le_e) labels ≡ 1 ∷ 2 ∷ 1 ∷ 1 ∷ []
unfolding count_e le_e labels one_more plan_total cost total label_keys plan best takes smallest in_smallest weight weighed sum sum_where select
e_costs = refl

pub e_ceilings : map (ceiling 4 le_e) labels ≡ 4 ∷ 2 ∷ 2 ∷ 1 ∷ []
unfolding le_e labels below ceiling select
e_ceilings = refl

-- With CURVES 5 the two parents of ACCRUED weigh the same, and it hangs from CONV32. One account more at CURVES makes it hang from CURVES: 1 key more,
-- where under the old tree it would be 2.
unfoldable pub count_t : ℕ → ℕ
count_t = at (2 ∷ 5 ∷ 5 ∷ 4 ∷ [])

pub tied_costs : map (cost 4 count_t le_e) labels ≡ 1 ∷ 1 ∷ 1 ∷ 1 ∷ []
unfolding count_t le_e labels one_more plan_total cost total label_keys plan best takes smallest in_smallest weight weighed sum sum_where select
tied_costs = refl

-- ---- the demand at E

-- every number below n passes the test
all : (ℕ → Bool) → ℕ → Bool
all t zero = true
all t (suc n) = t n && all t n

all_at : (t : ℕ → Bool) (n : ℕ) → all t n ≡ true → (i : ℕ) → i < n → t i ≡ true
unfolding all
all_at t zero e i l = absurd (omega arith)
all_at t (suc n) e i l = go (all_at t n b.1) (eq-or-lt_of_le (le_of_suc-le-suc l))
  where
    b : (t n ≡ true) × (all t n ≡ true)
    b = both_yes (t n) (all t n) e

    go : ((j : ℕ) → j < n → t j ≡ true) → (i ≡ n) ⊎ (i < n) → t i ≡ true
    go ih (inl q) = rw q b.0
    go ih (inr h) = ih i h

-- a table is an order with its top first: three tests
is_same : ℕ → (ℕ → ℕ → Bool) → Bool
is_same n le = all (λ m. le m m && le m top) n

is_upper : ℕ → (ℕ → ℕ → Bool) → Bool
is_upper n le = all (λ m. all (λ l. not (le m l) || leb l m) n) n

is_chain : ℕ → (ℕ → ℕ → Bool) → Bool
is_chain n le = all (λ m. all (λ l. all (λ k. not (le m l && le l k) || le m k) n) n) n

implies : (a b : Bool) → (not a || b) ≡ true → a ≡ true → b ≡ true
implies true b e h = e
implies false b e h = absurd (not_both h refl)

table_order : (n : ℕ) (le : ℕ → ℕ → Bool) → top < n → is_same n le ≡ true → is_upper n le ≡ true → is_chain n le ≡ true → Order n (λ m l. le m l ≡ true) le
unfolding is_same is_upper is_chain
table_order n le h s u c = record {
  some = h;
  tested = λ m l hm hl. (λ e. e, λ e. e);
  same = λ m hm. (both_yes (le m m) (le m top) (all_at (λ m. le m m && le m top) n s m hm)).0;
  chain = λ m l k hm hl hk a b. implies (le m l && le l k) (le m k)
      (all_at (λ k. not (le m l && le l k) || le m k) n
      (all_at (λ l. all (λ k. not (le m l && le l k) || le m k) n) n (all_at (λ m. all (λ l. all (λ k. not (le m l && le l k) || le m k) n) n) n c m hm) l hl) k hk)
      (rw (a, b));
  upper = λ m l hm hl a. leb-true l m (implies (le m l) (leb l m)
      (all_at (λ l. not (le m l) || leb l m) n (all_at (λ m. all (λ l. not (le m l) || leb l m) n) n u m hm) l hl) a);
  under = λ m hm. (both_yes (le m m) (le m top) (all_at (λ m. le m m && le m top) n s m hm)).1;
}

pub e_order : Order 4 (λ m l. le_e m l ≡ true) le_e
unfolding le_e is_same is_upper is_chain all
e_order = table_order 4 le_e (omega arith) refl refl refl

pub e_fewest : Fewest 4 count_e (λ m l. le_e m l ≡ true) 17
e_fewest = rw e_total at (plan_fewest e_order count_e)
