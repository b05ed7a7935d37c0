-- Worked policies: in E both bounds are met; a full label has no figures; the empty file is refused with 1.
use Prim.Native.Nat.{ℕ}
use mathlib.Core.List.{List, [], ◌∷◌, map}
use mathlib.Core.Path.{◌≡◌, refl, ap}
use lib.ListN.{get_or, replicate, set}
use Rattle.decimals.specs.Decimal.{digits_before, decimal}
use Rattle.decimals.specs.Text.{bytes_of}
use Rattle.format.specs.Bytes.{same_bytes}
use Rattle.format.specs.Names.{class_of, padding, formed, some_no_space, well_formed, unpadded}
use Rattle.format.specs.Search.{first_from}
use Rattle.lists.specs.Tables.{some_below, every_below, listed, concat_below}
use Rattle.order.specs.Table.{joined, linked, row_up_to, label_row, rows_below, order_table}
use Rattle.policy_file.proofs.Examples.{E, one}
use Rattle.policy_file.specs.File.{name_of, count_of, pair_at, is_named, label_named}
use Rattle.policy_file.specs.Record.{label_kind, over_kind, marked_kind, policy_kind}
use Rattle.policy_file.specs.Whole.{is_lower_of, is_lower, is_placed, at_end, scan_from, policy_of, pairs_of, order_of}
use Rattle.trees.specs.Growth.{one_more, plan_total, cost, below, ceiling}
use Rattle.trees.specs.Sums.{sum, sum_where, select}
use Rattle.trees.specs.Weights.{weighed, weight, in_smallest, smallest, label_keys, total, takes, best, plan}
use Rattle.growth_answers.specs.Growing.{has_room, cost_at, ceiling_at, growing, growth_of, refused_growth}
use Rattle.growth_answers.specs.GrowthListing.{figures, growth_line, growth_text}
use Rattle.growth_answers.specs.declared.Growth.{Growth}

-- four numbers in a table of 64
abbrev table : ℕ → ℕ → ℕ → ℕ → List ℕ
table a b c d = a ∷ b ∷ c ∷ d ∷ replicate 60 0

abbrev answer : (labels : ℕ) (costs ceilings : List ℕ) → Growth
answer labels costs ceilings = record { refusal = 0; zeros = replicate 7 0; labels = labels; costs = costs; ceilings = ceilings }

-- one label with 65,535 accounts
abbrev full : List ℕ
full = set (set one 10 255) 11 255

-- In E one account more costs 1 at SUITE, though 4 labels are at or below it, and 2 at CURVES, as many as are at or below that.
pub growths : map growth_of (E ∷ full ∷ [] ∷ [])
    ≡ answer 4 (table 1 2 1 1) (table 4 2 2 1) ∷ answer 1 (table 0 0 0 0) (table 0 0 0 0) ∷ refused_growth 1 ∷ []
unfolding same_bytes class_of padding formed some_no_space well_formed first_from some_below every_below listed joined linked row_up_to label_row rows_below order_table name_of count_of pair_at is_named label_named label_kind over_kind marked_kind policy_kind is_lower_of is_lower is_placed at_end scan_from policy_of pairs_of order_of one_more plan_total cost below ceiling sum sum_where select weighed weight in_smallest smallest label_keys total takes best plan has_room cost_at ceiling_at growing growth_of
growths = refl

pub growth_e : growth_of E ≡ answer 4 (table 1 2 1 1) (table 4 2 2 1)
growth_e = ap (λ (answers : List Growth). get_or answers 0 (refused_growth 0)) growths

growth_full : growth_of full ≡ answer 1 (table 0 0 0 0) (table 0 0 0 0)
growth_full = ap (λ (answers : List Growth). get_or answers 1 (refused_growth 0)) growths

pub growth_text_e : growth_text E ≡ bytes_of "SUITE 1 4\nCURVES 2 2\nCONV32 1 2\nACCRUED 1 1\n"
unfolding growth_text growth_line figures has_room concat_below name_of count_of unpadded decimal digits_before bytes_of
growth_text_e = rw growth_e

pub growth_text_full : growth_text full ≡ bytes_of "A - -\n"
unfolding growth_text growth_line figures has_room concat_below name_of count_of unpadded decimal digits_before bytes_of
growth_text_full = rw growth_full
