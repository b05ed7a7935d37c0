-- What `plan_policy` answers for a policy file (01, "Tree, weights and key sets").
use Rattle.std.specs.Prelude.{ℕ, Bool, cond, List, eqb, replicate}
use Rattle.order.specs.Table.{entry_at}
use Rattle.policy_file.specs.File.{count_of}
use Rattle.policy_file.specs.Whole.{policy_refusal, label_count, order_of}
use Rattle.trees.specs.Weights.{total, plan}
use Rattle.lists.specs.Tables.{filled}
use Rattle.weights.specs.Tables.{weight_table, size_table}
use Rattle.plan_answers.specs.declared.Plan.{Plan}

-- what is planned for n labels with accounts count and the order's test le: for each label its parent, "weight (for the top its accounts), keys
-- held by one account", then 0, and the total
unfoldable pub planned : (refusal n : ℕ) (count : ℕ → ℕ) (le : ℕ → ℕ → Bool) → Plan
planned refusal n count le =
    let tree : ℕ → ℕ = plan n count le in
    record {
      refusal = refusal;
      zeros = replicate 3 0;
      total = total n count le tree;
      labels = n;
      parents = filled 64 0 tree n;
      weights = weight_table n count le tree;
      sizes = size_table n le tree;
    }

-- the test of the order of a policy's labels, by its table
abbrev pub at_or_below : List ℕ → ℕ → ℕ → Bool
at_or_below file = entry_at (order_of file)

-- what `plan_policy` answers. A refused file has no labels, so everything beside the refusal is 0.
unfoldable pub plan_of : List ℕ → Plan
plan_of file = planned (policy_refusal file) (label_count file) (count_of file) (at_or_below file)

-- "With a refusal every number in the answer is 0"
abbrev pub refused_plan : ℕ → Plan
refused_plan number = record {
  refusal = number;
  zeros = replicate 3 0;
  total = 0;
  labels = 0;
  parents = replicate 64 0;
  weights = replicate 64 0;
  sizes = replicate 64 0;
}

-- what lent rows hold after `plan_order`: the order of an accepted policy; with a refusal "lent buffers are unchanged"
unfoldable pub rows_after : List ℕ → List (List Bool) → List (List Bool)
rows_after file rows = cond (eqb (policy_refusal file) 0) (order_of file) rows
