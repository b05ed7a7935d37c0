-- Document 01's worked policies as tables, computed.
use mathlib.Core.Path.{◌≡◌, refl}
use mathlib.Core.List.{[], ◌∷◌, map}
use lib.ListN.{replicate}
use Rattle.lists.specs.Tables.{listed}
use Rattle.trees.specs.Sums.{sum, sum_where, select}
use Rattle.trees.specs.Weights.{weighed, weight, in_smallest, smallest, takes, best, plan}
use Rattle.trees.proofs.Examples.{at, count_e, le_e, count_c, le_c}
use Rattle.weights.specs.Tables.{entries, parent_table, held_weight, weight_table, set_size, size_table, account_keys, key_total}

-- policy E: parents, "weight (for the top its accounts)", keys held by one account, and "TOTAL 17"
pub e_parents : parent_table 4 count_e le_e ≡ 0 ∷ 0 ∷ 0 ∷ 2 ∷ replicate 60 0
unfolding count_e le_e parent_table listed plan best takes weight weighed sum_where
e_parents = refl

pub e_weights : weight_table 4 count_e le_e (at (0 ∷ 0 ∷ 0 ∷ 2 ∷ [])) ≡ 2 ∷ 3 ∷ 5 ∷ 7 ∷ replicate 60 0
unfolding count_e le_e weight_table held_weight listed weight weighed sum_where
e_weights = refl

pub e_sizes : size_table 4 le_e (at (0 ∷ 0 ∷ 0 ∷ 2 ∷ [])) ≡ 1 ∷ 2 ∷ 1 ∷ 1 ∷ replicate 60 0
unfolding le_e size_table set_size listed smallest in_smallest select
e_sizes = refl

pub e_total : key_total 4 count_e (entries (size_table 4 le_e (entries (parent_table 4 count_e le_e)))) ≡ 17
unfolding count_e le_e key_total account_keys size_table set_size parent_table listed plan best takes smallest in_smallest weight weighed sum sum_where select
e_total = refl

-- "E under `TR` 0,0,0,1: 19. .. Under 0,0,0,0: 22."
pub e_offered : map (λ parents. key_total 4 count_e (set_size 4 le_e (at parents))) ((0 ∷ 0 ∷ 0 ∷ 1 ∷ []) ∷ (0 ∷ 0 ∷ 0 ∷ 0 ∷ []) ∷ []) ≡ 19 ∷ 22 ∷ []
unfolding count_e le_e key_total account_keys set_size smallest in_smallest sum select
e_offered = refl

-- "Chain A 1, B 0, C 4: A and B both weigh 4 for C", and by 02, Ask 1, C hangs from B. "Total 5."
pub chain_parents : parent_table 3 count_c le_c ≡ 0 ∷ 0 ∷ 1 ∷ replicate 61 0
unfolding count_c le_c parent_table listed plan best takes weight weighed sum_where
chain_parents = refl

pub chain_total : key_total 3 count_c (entries (size_table 3 le_c (entries (parent_table 3 count_c le_c)))) ≡ 5
unfolding count_c le_c key_total account_keys size_table set_size parent_table listed plan best takes smallest in_smallest weight weighed sum sum_where select
chain_total = refl
