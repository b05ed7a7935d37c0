-- Demands 2 and 3 for an accepted policy and any accounts: the counts in its `LB` records and those of a roster are two cases (02, Ask 4: "Fewest-key claims
-- are then about these counts"). The policy with these accounts is another policy file, and the demands hold of it word for word; beside them stands what
-- they say in the labels and the order of the first file, and with the accounts themselves.
use Rattle.std.specs.Prelude.{ℕ, List, ◌↔◌, ◌≡◌}
use Rattle.plan_answers.specs.Planned.{planned, plan_of, at_or_below}
use Rattle.policy_file.specs.Counts.{OtherCounts}
use Rattle.policy_file.specs.Whole.{label_count}
use Rattle.trees.specs.Trees.{Fewest}
use Rattle.trees.specs.Weights.{total, HangsLeast}
use Rattle.weights.specs.Tables.{entries}
use Rattle.claims.specs.Demand2.{Demand2}
use Rattle.claims.specs.Demand3.{Demand3}
use Rattle.claims.specs.Published.{R, TreeOf}

-- the fewest keys for these accounts, "under any derivation tree of the policy, with any sets that open exactly what is licensed"
abbrev pub FewestFor : List ℕ → (count : ℕ → ℕ) → ℕ → Type 0
FewestFor file count k = Fewest (label_count file) count (R file) k

-- 01: "Total: for each label, accounts times size of the smallest set, summed.", for these accounts
abbrev pub total_for : List ℕ → (count : ℕ → ℕ) → (parent : ℕ → ℕ) → ℕ
total_for file count parent = total (label_count file) count (at_or_below file) parent

-- "every label under the top hangs from a parent of least weight among the labels above it", weighed by these accounts
abbrev pub HangsFor : List ℕ → (count : ℕ → ℕ) → (parent : ℕ → ℕ) → Type 0
HangsFor file count parent = HangsLeast (label_count file) count (R file) (at_or_below file) parent

-- an accepted policy `file`, and `other`, the policy that has the accounts `count` instead of its own
pub record WithAccounts (file other : List ℕ) (count : ℕ → ℕ) : Type 0 where
  -- it is accepted, and has the labels, names and pairs of the first file, and these accounts
  pub replaced : OtherCounts file other count
  -- the demands, word for word
  pub demand2 : Demand2 other
  pub demand3 : Demand3 other
  -- label m is at or below label l in the one exactly when it is in the other
  pub order : (m l : ℕ) → R other m l ↔ R file m l
  pub test : at_or_below other ≡ at_or_below file
  -- the plan is made of the first file's labels and order, and of these accounts
  pub plan : plan_of other ≡ planned 0 (label_count file) count (at_or_below file)
  -- demand 3: "The plan's own tree is a derivation tree of the policy that hangs so, and the total answered with it is the fewest."
  pub tree : TreeOf file (entries (plan_of other).parents)
  pub hangs : HangsFor file count (entries (plan_of other).parents)
  pub fewest : FewestFor file count (plan_of other).total
  pub total : (plan_of other).total ≡ total_for file count (entries (plan_of other).parents)
  -- demand 3: "They are equal exactly when every label under the top hangs from a parent of least weight among the labels above it.", for every
  -- derivation tree of the first file
  pub equals : (parent : ℕ → ℕ) → TreeOf file parent → (k : ℕ) → FewestFor file count k → (total_for file count parent ≡ k) ↔ HangsFor file count parent
