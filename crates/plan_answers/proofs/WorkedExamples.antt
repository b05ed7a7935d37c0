-- 01, "Checked by hand": the sentences about plans and offered trees, for the files byte by byte.
use Prim.Native.Nat.{ℕ}
use mathlib.Core.Bool.{Bool, true, false}
use mathlib.Core.List.{List, [], ◌∷◌, map}
use mathlib.Core.Path.{◌≡◌, refl, ap}
use lib.ListN.{get_or, replicate}
use Rattle.format.specs.Bytes.{same_bytes}
use Rattle.format.specs.Names.{class_of, padding, formed, some_no_space, well_formed}
use Rattle.format.specs.Search.{first_from}
use Rattle.lists.specs.Tables.{some_below, every_below, listed}
use Rattle.order.specs.Table.{joined, linked, row_up_to, label_row, rows_below, order_table}
use Rattle.policy_file.proofs.Examples.{E, one}
use Rattle.policy_file.specs.File.{name_of, count_of, pair_at, is_named, label_named}
use Rattle.policy_file.specs.Record.{label_kind, over_kind, marked_kind, policy_kind}
use Rattle.policy_file.specs.Whole.{is_lower_of, is_lower, is_placed, at_end, scan_from, policy_of, pairs_of, order_of}
use Rattle.trees.specs.Sums.{sum, sum_where, select}
use Rattle.trees.specs.Weights.{weighed, weight, in_smallest, smallest, label_keys, total, takes, best, plan, least}
use Rattle.weights.specs.Tables.{held_weight, weight_table, set_size, size_table}
use Rattle.plan_answers.specs.Planned.{planned, plan_of, refused_plan}
use Rattle.plan_answers.specs.TreeFile.{parent_in, hangs_at, tree_refusal}
use Rattle.plan_answers.specs.Weighing.{tree_weighed, weigh_refusal, refused_weighed, weigh_of}
use Rattle.plan_answers.specs.declared.Plan.{Plan}
use Rattle.plan_answers.specs.declared.Weighed.{Weighed}

-- a tree file from its parents
abbrev tree : List ℕ → List ℕ
tree parents = 84 ∷ 82 ∷ parents

-- the answer for a tree that is read
abbrev weighed_as : ℕ → Bool → Weighed
weighed_as total least = record { refusal = 0; least = least; zeros = replicate 2 0; total = total }

-- A 1, B 0, C 4, one below the other
abbrev chain : List ℕ
chain =
    76 ∷ 66 ∷ 65 ∷ 32 ∷ 32 ∷ 32 ∷ 32 ∷ 32 ∷ 32 ∷ 32 ∷ 0 ∷ 1
    ∷ 76 ∷ 66 ∷ 66 ∷ 32 ∷ 32 ∷ 32 ∷ 32 ∷ 32 ∷ 32 ∷ 32 ∷ 0 ∷ 0
    ∷ 76 ∷ 66 ∷ 67 ∷ 32 ∷ 32 ∷ 32 ∷ 32 ∷ 32 ∷ 32 ∷ 32 ∷ 0 ∷ 4
    ∷ 79 ∷ 86 ∷ 0 ∷ 1 ∷ 79 ∷ 86 ∷ 1 ∷ 2 ∷ []

-- four numbers in a table of 64
abbrev table : ℕ → ℕ → ℕ → ℕ → List ℕ
table a b c d = a ∷ b ∷ c ∷ d ∷ replicate 60 0

-- the listing of E: parents, weights (for the top its accounts), keys held by one account, "TOTAL 17"
abbrev pub listing : Plan
listing = record { refusal = 0; zeros = replicate 3 0; total = 17; labels = 4; parents = table 0 0 0 2; weights = table 2 3 5 7; sizes = table 1 2 1 1 }

-- "Chain A 1, B 0, C 4: .. Total 5." By 02, Ask 1, C hangs from B.
abbrev chained : Plan
chained = record { refusal = 0; zeros = replicate 3 0; total = 5; labels = 3; parents = table 0 0 1 0; weights = table 1 0 4 0; sizes = table 1 1 1 0 }

-- "One label with 7 accounts: total 7."
abbrev single : Plan
single = record { refusal = 0; zeros = replicate 3 0; total = 7; labels = 1; parents = table 0 0 0 0; weights = table 7 0 0 0; sizes = table 1 0 0 0 }

-- the last is "Empty policy: 1"
pub plans : map plan_of (E ∷ chain ∷ one ∷ [] ∷ []) ≡ listing ∷ chained ∷ single ∷ refused_plan 1 ∷ []
unfolding same_bytes class_of padding formed some_no_space well_formed first_from some_below every_below listed joined linked row_up_to label_row rows_below order_table name_of count_of pair_at is_named label_named label_kind over_kind marked_kind policy_kind is_lower_of is_lower is_placed at_end scan_from policy_of pairs_of order_of sum sum_where select weighed weight in_smallest smallest label_keys total takes best plan held_weight weight_table set_size size_table planned plan_of
plans = refl

pub plan_e : plan_of E ≡ listing
plan_e = ap (λ (answers : List Plan). get_or answers 0 listing) plans

-- "E under `TR` 0,0,0,1: 19.", "Under 0,0,0,0: 22.", "Under 0,0,1,2: 12. Three bytes after `TR`: 11." The plan's own tree: 17, and yes. A label
-- that hangs from itself, and a top's byte that is not 0: 12. No mark: 2.
pub offered : map (weigh_of E)
    (tree (0 ∷ 0 ∷ 0 ∷ 1 ∷ []) ∷ tree (0 ∷ 0 ∷ 0 ∷ 0 ∷ []) ∷ tree (0 ∷ 0 ∷ 0 ∷ 2 ∷ []) ∷ tree (0 ∷ 0 ∷ 1 ∷ 2 ∷ []) ∷ tree (0 ∷ 0 ∷ 0 ∷ [])
    ∷ tree (0 ∷ 0 ∷ 0 ∷ 3 ∷ []) ∷ tree (1 ∷ 0 ∷ 0 ∷ 2 ∷ []) ∷ (84 ∷ []) ∷ (84 ∷ 83 ∷ 0 ∷ 0 ∷ 0 ∷ 2 ∷ []) ∷ [])
    ≡ weighed_as 19 false ∷ weighed_as 22 false ∷ weighed_as 17 true ∷ refused_weighed 12 ∷ refused_weighed 11
    ∷ refused_weighed 12 ∷ refused_weighed 12 ∷ refused_weighed 2 ∷ refused_weighed 2 ∷ []
unfolding same_bytes class_of padding formed some_no_space well_formed first_from some_below every_below listed joined linked row_up_to label_row rows_below order_table name_of count_of pair_at is_named label_named label_kind over_kind marked_kind policy_kind is_lower_of is_lower is_placed at_end scan_from policy_of pairs_of order_of sum sum_where select weighed weight in_smallest smallest label_keys total takes best plan least tree_weighed parent_in hangs_at tree_refusal weigh_refusal weigh_of
offered = refl

-- a refused policy comes before a tree file without its mark
pub policy_first : weigh_of [] [] ≡ refused_weighed 1
unfolding policy_of weigh_refusal weigh_of
policy_first = refl
