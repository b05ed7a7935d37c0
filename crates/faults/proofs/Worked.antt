-- Worked examples on policy E: SUITE, CURVES, CONV32, ACCRUED, with pairs 0-1, 0-2, 1-3, 2-3.
use Prim.Native.Nat.{ℕ}
use mathlib.Core.List.{List, [], ◌∷◌, map}
use mathlib.Core.Path.{◌≡◌, refl}
use lib.ListN.{take}
use Rattle.faults.specs.Faults.{no_name, name_found, is_no_lower, no_lower_at, second_top, is_ill_hung, ill_hung_at, ill_hung}
use Rattle.format.specs.Bytes.{same_bytes}
use Rattle.format.specs.Names.{class_of, padding, formed, some_no_space, well_formed}
use Rattle.format.specs.Search.{first_from}
use Rattle.lists.specs.Tables.{some_below, every_below, listed}
use Rattle.order.specs.Table.{joined, linked, row_up_to, label_row, rows_below, order_table}
use Rattle.plan_answers.specs.TreeFile.{parent_in, hangs_at, tree_refusal}
use Rattle.plan_answers.specs.Weighing.{weigh_refusal}
use Rattle.policy_file.proofs.Examples.{E}
use Rattle.policy_file.specs.File.{name_of, count_of, pair_at, is_named, label_named}
use Rattle.policy_file.specs.Record.{label_kind, over_kind, marked_kind, policy_kind}
use Rattle.policy_file.specs.Whole.{is_lower_of, is_lower, is_placed, at_end, scan_from, policy_of, pairs_of, order_of}

-- E, E without its last two pairs, without its last three, without all four, with half a pair, and the empty policy
pub second_tops : map second_top (E ∷ take 56 E ∷ take 52 E ∷ take 48 E ∷ take 54 E ∷ [] ∷ [])
    ≡ no_name ∷ name_of E 3 ∷ name_of E 2 ∷ name_of E 1 ∷ no_name ∷ no_name ∷ []
unfolding same_bytes class_of padding formed some_no_space well_formed first_from some_below name_of count_of pair_at is_named label_named label_kind over_kind marked_kind policy_kind is_lower_of is_lower scan_from name_found is_no_lower no_lower_at second_top
second_tops = refl

-- a tree file from its parents
abbrev tree : List ℕ → List ℕ
tree parents = 84 ∷ 82 ∷ parents

-- the plan's tree, CONV32 from CURVES, ACCRUED from itself, both, the top's byte not 0, a byte too many, and no byte at all
pub ill_hungs : map (ill_hung E)
    (tree (0 ∷ 0 ∷ 0 ∷ 2 ∷ []) ∷ tree (0 ∷ 0 ∷ 1 ∷ 2 ∷ []) ∷ tree (0 ∷ 0 ∷ 0 ∷ 3 ∷ []) ∷ tree (0 ∷ 0 ∷ 1 ∷ 3 ∷ []) ∷ tree (1 ∷ 0 ∷ 1 ∷ 3 ∷ [])
    ∷ tree (1 ∷ 0 ∷ 0 ∷ 2 ∷ 0 ∷ []) ∷ [] ∷ [])
    ≡ no_name ∷ name_of E 2 ∷ name_of E 3 ∷ name_of E 2 ∷ name_of E 0 ∷ no_name ∷ no_name ∷ []
unfolding same_bytes class_of padding formed some_no_space well_formed first_from some_below every_below listed joined linked row_up_to label_row rows_below order_table name_of count_of pair_at is_named label_named label_kind over_kind marked_kind policy_kind is_lower_of is_lower is_placed at_end scan_from policy_of pairs_of order_of parent_in hangs_at tree_refusal weigh_refusal name_found is_ill_hung ill_hung_at ill_hung
ill_hungs = refl
