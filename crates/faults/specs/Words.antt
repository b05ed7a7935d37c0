-- The label that a refusal means, in words: what holds of it and of every label before it. Label m's name is the 8 bytes at 12 * m + 2 (`name_of`).
use Rattle.std.specs.Prelude.{ℕ, ◌<◌, List, ◌≢◌, ◌⊎◌, ◌≡◌}
use Rattle.order.specs.Order.{AtOrBelow}
use Rattle.plan_answers.specs.TreeFile.{parent_in}
use Rattle.plan_answers.specs.TreeRows.{ByteEach}
use Rattle.policy_file.specs.File.{name_of}
use Rattle.policy_file.specs.Rows.{bytes_left, LowerOf, PolicyPasses}
use Rattle.policy_file.specs.Whole.{label_count, pairs_of, AcceptedPolicy}
use Rattle.trees.specs.Trees.{top, Above}

-- 10: all records pass and the file ends after them; the label is not 0 and never the lower of a pair; each label before it is 0 or the lower of one
pub record SecondTop (policy name : List ℕ) : Type 0 where
  pub labels : ℕ
  pub pairs : ℕ
  pub passes : PolicyPasses policy labels pairs
  pub ends : bytes_left policy labels pairs ≡ 0
  pub label : ℕ
  pub other : 0 < label
  pub below : label < labels
  pub never : LowerOf policy labels pairs label → ⊥
  pub before : (l : ℕ) → l < label → (l ≡ 0) ⊎ LowerOf policy labels pairs l
  pub named : name ≡ name_of policy label

-- label m's byte is as it has to be: "the top's byte is 0", any other is a strictly higher label
pub data RightByte (n : ℕ) (R : ℕ → ℕ → Type 0) (tree : List ℕ) (m : ℕ) : Type 0 where
  of_top : m ≡ top → parent_in tree m ≡ 0 → RightByte n R tree m
  of_other : m ≢ top → Above n R (parent_in tree m) m → RightByte n R tree m

-- 12: the policy is accepted, and the tree file has its mark and a byte for each label; the label's byte is wrong, that of each label before it is right
pub record IllHung (policy tree name : List ℕ) : Type 0 where
  pub accepted : AcceptedPolicy policy
  pub form : ByteEach (label_count policy) tree
  pub label : ℕ
  pub below : label < label_count policy
  pub wrong : ¬ RightByte (label_count policy) (AtOrBelow (pairs_of policy)) tree label
  pub before : (l : ℕ) → l < label → RightByte (label_count policy) (AtOrBelow (pairs_of policy)) tree l
  pub named : name ≡ name_of policy label
