-- What one account more costs (02, Ask 3), over a label count n, accounts count and the order's test le.
use Rattle.std.specs.Prelude.{ℕ, suc, ◌+◌, ◌-◌, ◌≤◌, Bool, cond, List, eqb, length}
use Rattle.trees.specs.Sums.{select}
use Rattle.trees.specs.Weights.{total, plan}

-- "one account more there": the accounts, with one more at label l
unfoldable pub one_more : (count : ℕ → ℕ) (l : ℕ) → ℕ → ℕ
one_more count l m = cond (eqb m l) (suc (count m)) (count m)

-- "the plan's total"
unfoldable pub plan_total : (n : ℕ) (count : ℕ → ℕ) (le : ℕ → ℕ → Bool) → ℕ
plan_total n count le = total n count le (plan n count le)

-- what one account more at l costs: the total of the plan with it, less today's
unfoldable pub cost : (n : ℕ) (count : ℕ → ℕ) (le : ℕ → ℕ → Bool) (l : ℕ) → ℕ
cost n count le l = plan_total n (one_more count l) le - plan_total n count le

-- the labels "at or below it", ascending
unfoldable pub below : (n : ℕ) (le : ℕ → ℕ → Bool) (l : ℕ) → List ℕ
below n le l = select (λ m. le m l) n

-- "the number of labels at or below it"
unfoldable pub ceiling : (n : ℕ) (le : ℕ → ℕ → Bool) (l : ℕ) → ℕ
ceiling n le l = length (below n le l)

-- "one account more there raises the plan's total by at least 1 and at most by the number of labels at or below it"
pub record Grows (n : ℕ) (count : ℕ → ℕ) (le : ℕ → ℕ → Bool) (l : ℕ) : Type 0 where
  pub least : plan_total n count le + 1 ≤ plan_total n (one_more count l) le
  pub most : plan_total n (one_more count l) le ≤ plan_total n count le + ceiling n le l
