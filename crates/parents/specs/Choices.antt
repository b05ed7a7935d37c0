-- What is chosen for the labels: a parent of least weight, with that weight; for the top itself and its accounts.
use Rattle.std.specs.Prelude.{ℕ, Bool}
use Rattle.trees.specs.Weights.{plan}
use Rattle.weights.specs.Tables.{held_weight, parent_table, weight_table}
use Rattle.parents.specs.declared.Choice.{Choice}
use Rattle.parents.specs.declared.Chosen.{Chosen}

unfoldable pub choice_of : (n : ℕ) (count : ℕ → ℕ) (le : ℕ → ℕ → Bool) (m : ℕ) → Choice
choice_of n count le m = record { parent = plan n count le m; weight = held_weight n count le (plan n count le) m }

unfoldable pub chosen_of : (n : ℕ) (count : ℕ → ℕ) (le : ℕ → ℕ → Bool) → Chosen
chosen_of n count le = record { parents = parent_table n count le; weights = weight_table n count le (plan n count le) }
