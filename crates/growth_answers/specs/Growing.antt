-- What `growth_policy` answers for a policy file (02, Ask 3).
use Rattle.std.specs.Prelude.{ℕ, Bool, cond, List, ltb, replicate}
use Rattle.lists.specs.Tables.{filled}
use Rattle.plan_answers.specs.Planned.{at_or_below}
use Rattle.policy_file.specs.File.{count_of}
use Rattle.policy_file.specs.Whole.{policy_refusal, label_count}
use Rattle.trees.specs.Growth.{cost, ceiling}
use Rattle.growth_answers.specs.declared.Growth.{Growth}

-- "a label with fewer than 65,535 accounts"
unfoldable pub has_room : (count : ℕ → ℕ) (l : ℕ) → Bool
has_room count l = ltb (count l) 65535

-- what one account more costs there, and the ceiling of that; 0 where there is no room for it
unfoldable pub cost_at : (n : ℕ) (count : ℕ → ℕ) (le : ℕ → ℕ → Bool) (l : ℕ) → ℕ
cost_at n count le l = cond (has_room count l) (cost n count le l) 0

unfoldable pub ceiling_at : (n : ℕ) (count : ℕ → ℕ) (le : ℕ → ℕ → Bool) (l : ℕ) → ℕ
ceiling_at n count le l = cond (has_room count l) (ceiling n le l) 0

-- the answer for n labels with accounts count and the order's test le: both figures of each label, then 0
unfoldable pub growing : (refusal n : ℕ) (count : ℕ → ℕ) (le : ℕ → ℕ → Bool) → Growth
growing refusal n count le = record {
  refusal = refusal;
  zeros = replicate 7 0;
  labels = n;
  costs = filled 64 0 (cost_at n count le) n;
  ceilings = filled 64 0 (ceiling_at n count le) n;
}

-- what `growth_policy` answers. A refused file has no labels, so everything beside the refusal is 0.
unfoldable pub growth_of : List ℕ → Growth
growth_of file = growing (policy_refusal file) (label_count file) (count_of file) (at_or_below file)

-- "With a refusal every number in the answer is 0"
abbrev pub refused_growth : ℕ → Growth
refused_growth number = record {
  refusal = number;
  zeros = replicate 7 0;
  labels = 0;
  costs = replicate 64 0;
  ceilings = replicate 64 0;
}
