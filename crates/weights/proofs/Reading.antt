-- What the entries of a table are: those of the labels as they were worked out, 0 past them; and the plan's table as parents.
use Prim.Native.Nat.{ℕ, ◌≤◌, ◌<◌}
use mathlib.Core.Bool.{Bool}
use mathlib.Core.Logic.{◌≢◌}
use mathlib.Core.Path.{◌≡◌, refl}
use native.Mathlib.Omega.{arith}
use borrow.Author.Tests.{eq-eqb, ne_eqb}
use Rattle.lists.specs.Tables.{filled}
use Rattle.lists.proofs.Tables.{get_d_filled, get_d_past}
use Rattle.trees.specs.Trees.{top}
use Rattle.trees.specs.Weights.{weight, plan}
use Rattle.trees.proofs.Tables.{SameParents}
use Rattle.trees.proofs.Ties.{best_early}
use Rattle.weights.specs.Tables.{entries, parent_table, held_weight, weight_table, set_size, size_table}

-- any table of 64 entries that is filled from the front
module _ (f : ℕ → ℕ) (n m : ℕ) where
  pub entries_filled : m < n → entries (filled 64 0 f n) m ≡ f m
  entries_filled h = get_d_filled f 64 0 n m 0 h

  pub entries_past : n ≤ m → entries (filled 64 0 f n) m ≡ 0
  entries_past h = get_d_past f 64 0 n m h

-- no label's entry in the plan is past the label itself
pub plan_early : (n : ℕ) (count : ℕ → ℕ) (le : ℕ → ℕ → Bool) (m : ℕ) → plan n count le m ≤ m
unfolding plan
plan_early n count le m = best_early n count le m m

module _ (n : ℕ) (count : ℕ → ℕ) (le : ℕ → ℕ → Bool) where
  pub entries_parent : (m : ℕ) → m < n → entries (parent_table n count le) m ≡ plan n count le m
  unfolding parent_table
  entries_parent m h = entries_filled (plan n count le) n m h

  pub entries_parent_past : (m : ℕ) → n ≤ m → entries (parent_table n count le) m ≡ 0
  unfolding parent_table
  entries_parent_past m h = entries_past (plan n count le) n m h

  pub parent_plan : SameParents n (entries (parent_table n count le)) (plan n count le)
  parent_plan = record {
    labels = λ m hm ne. omega (arith, entries_parent m hm, plan_early n count le m);
    agree = λ m hm ne. entries_parent m hm;
  }

  -- the table of weights: for the top its accounts, for another label the weight of its parent
  module _ (parent : ℕ → ℕ) where
    pub held_weight_top : (m : ℕ) → m ≡ top → held_weight n count le parent m ≡ count top
    unfolding held_weight
    held_weight_top m e = rw (eq-eqb m top e) refl

    pub held_weight_under : (m : ℕ) → m ≢ top → held_weight n count le parent m ≡ weight n count le (parent m) m
    unfolding held_weight
    held_weight_under m ne = rw (ne_eqb m top ne) refl

    pub entries_weight : (m : ℕ) → m < n → entries (weight_table n count le parent) m ≡ held_weight n count le parent m
    unfolding weight_table
    entries_weight m h = entries_filled (held_weight n count le parent) n m h

    pub entries_weight_past : (m : ℕ) → n ≤ m → entries (weight_table n count le parent) m ≡ 0
    unfolding weight_table
    entries_weight_past m h = entries_past (held_weight n count le parent) n m h

-- the table of sizes
module _ (n : ℕ) (le : ℕ → ℕ → Bool) (parent : ℕ → ℕ) where
  pub entries_size : (l : ℕ) → l < n → entries (size_table n le parent) l ≡ set_size n le parent l
  unfolding size_table
  entries_size l h = entries_filled (set_size n le parent) n l h

  pub entries_size_past : (l : ℕ) → n ≤ l → entries (size_table n le parent) l ≡ 0
  unfolding size_table
  entries_size_past l h = entries_past (set_size n le parent) n l h
