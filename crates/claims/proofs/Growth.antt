-- 02, Ask 3: what one more account costs, shown for every accepted policy and each of its labels that has fewer than 65,535 accounts.
use Prim.Native.Nat.{ℕ, ◌+◌, ◌≤◌, ◌<◌}
use mathlib.Core.Bool.{Bool}
use mathlib.Core.List.{List}
use mathlib.Core.Path.{◌≡◌, refl, sym, ap, ap₂, ◌∙◌}
use native.Mathlib.Decide.{dec_le}
use native.Mathlib.Omega.{arith}
use lib.ListN.{length}
use Rattle.format.specs.Bytes.{same_bytes}
use Rattle.format.specs.Names.{class_of, padding, formed, some_no_space, well_formed}
use Rattle.format.specs.Search.{first_from}
use Rattle.growth_answers.proofs.GrowthAnswer.{room_cost, room_ceiling, full_none, growth_refused, growth_past, growth_cost, growth_ceiling, policy_grows}
use Rattle.growth_answers.specs.Growing.{growing, growth_of}
use Rattle.growth_answers.specs.GrowthListing.{growth_text}
use Rattle.growth_answers.specs.GrowthTextAnswer.{growth_written, growth_after}
use Rattle.lists.specs.Buffer.{pasted}
use Rattle.lists.specs.Tables.{some_below, every_below, listed}
use Rattle.order.specs.Table.{entry_at, joined, linked, row_up_to, label_row, rows_below, order_table}
use Rattle.plan_answers.proofs.PolicyOrder.{policy_order}
use Rattle.plan_answers.specs.Planned.{at_or_below, planned, plan_of}
use Rattle.policy_file.specs.Counts.{with_count, OtherCounts}
use Rattle.policy_file.specs.File.{name_of, count_of, pair_at, is_named, label_named}
use Rattle.policy_file.specs.Record.{label_kind, over_kind, marked_kind, policy_kind}
use Rattle.policy_file.specs.Whole.{is_lower_of, is_lower, is_placed, at_end, scan_from, policy_of, policy_refusal, label_count, AcceptedPolicy, pairs_of, order_of}
use Rattle.trees.proofs.Growth.{below_exactly, below_once, cost_added, total_same}
use Rattle.trees.specs.Growth.{one_more, plan_total, below, ceiling, Grows}
use Rattle.trees.specs.Sums.{sum, sum_where, select}
use Rattle.trees.specs.Weights.{weighed, weight, in_smallest, smallest, label_keys, total, takes, best, plan}
use Rattle.weights.specs.Tables.{entries}
use Rattle.claims.specs.Growth.{raised, labels_below, Ask3, OfAccounts, OfGrowth}
use Rattle.claims.specs.Starred.{E}
use Rattle.claims.proofs.Demand1Texts.{of_written}
use Rattle.claims.proofs.Raised.{raised_policy}

-- ---- every file

-- a label that has 65,535 accounts, or is none
no_room : (file : List ℕ) (l : ℕ) → 65_535 ≤ count_of file l → (entries (growth_of file).costs l ≡ 0) × (entries (growth_of file).ceilings l ≡ 0)
no_room file l h = go (dec_le (label_count file) l)
  where
    go : Dec (label_count file ≤ l) → (entries (growth_of file).costs l ≡ 0) × (entries (growth_of file).ceilings l ≡ 0)
    go (yes past) = growth_past file l past
    go (no d) =
        let none = full_none (label_count file) (count_of file) (at_or_below file) l h in
        (growth_cost file l (omega arith) ∙ none.0, growth_ceiling file l (omega arith) ∙ none.1)

pub growth_of_file : (file out : List ℕ) → OfGrowth file out
unfolding growth_of growing growth_written growth_after
growth_of_file file out = record {
  number = refl;
  labels = refl;
  full = no_room file;
  past = growth_past file;
  zeros = growth_refused file;
  text = of_written (policy_refusal file) (growth_text file) out;
}

-- the plan's total, as the theory has it
plan_total_lem : (file : List ℕ) → (plan_of file).total ≡ plan_total (label_count file) (count_of file) (at_or_below file)
unfolding plan_of planned plan_total
plan_total_lem file = refl

-- ---- an accepted policy, and the same with one account more at label l

module _ (file : List ℕ) (l : ℕ) (more : OtherCounts file (raised file l) (one_more (count_of file) l)) where
  same_order : at_or_below (raised file l) ≡ at_or_below file
  unfolding order_of
  same_order = ap entry_at (ap₂ order_table more.labels more.pairs)

  raised_total : (plan_of (raised file l)).total ≡ plan_total (label_count file) (one_more (count_of file) l) (at_or_below file)
  raised_total =
      plan_total_lem (raised file l)
      ∙ ap₂ (λ (n : ℕ) (le : ℕ → ℕ → Bool). plan_total n (count_of (raised file l)) le) more.labels same_order
      ∙ total_same more.counts (λ m k hm hk. refl)

pub ask3 : (file : List ℕ) → AcceptedPolicy file → (l : ℕ) → l < label_count file → count_of file l < 65_535 → Ask3 file l
unfolding ceiling
ask3 file ok l hl room = record {
  one_more_lem = more;
  least = rw (plan_total_lem file, raised_total file l more) G.least;
  most = rw (plan_total_lem file, raised_total file l more) G.most;
  listed = below_exactly (policy_order file ok) hl;
  once = below_once n le l;
  cost = ap₂ ◌+◌ (plan_total_lem file) (growth_cost file l hl ∙ room_cost n (count_of file) le l room) ∙ cost_added G ∙ sym (raised_total file l more);
  ceiling = growth_ceiling file l hl ∙ room_ceiling n (count_of file) le l room;
}
  where
    n : ℕ
    n = label_count file

    le : ℕ → ℕ → Bool
    le = at_or_below file

    more : OtherCounts file (raised file l) (one_more (count_of file) l)
    more = raised_policy file ok l hl room

    G : Grows n (count_of file) le l
    G = policy_grows file ok (count_of file) l hl

-- ---- any accounts

pub ask3_of_accounts : (file : List ℕ) → AcceptedPolicy file → (count : ℕ → ℕ) (l : ℕ) → l < label_count file → OfAccounts file count l
unfolding planned plan_total ceiling
ask3_of_accounts file ok count l hl = let G = policy_grows file ok count l hl in record { least = G.least; most = G.most }

-- ---- both bounds are met by policy E

-- one account more at CURVES adds 2, and 2 labels are at or below it
pub most_met : ((plan_of (raised E 1)).total ≡ (plan_of E).total + length (labels_below E 1)) × (length (labels_below E 1) ≡ 2)
unfolding raised with_count pasted below same_bytes class_of padding formed some_no_space well_formed first_from some_below every_below listed joined linked row_up_to label_row rows_below order_table name_of count_of pair_at is_named label_named label_kind over_kind marked_kind policy_kind is_lower_of is_lower is_placed at_end scan_from policy_of pairs_of order_of sum sum_where select weighed weight in_smallest smallest label_keys total takes best plan planned plan_of
most_met = (refl, refl)

-- one account more at SUITE adds 1, though 4 labels are at or below it
pub least_met : ((plan_of (raised E 0)).total ≡ (plan_of E).total + 1) × (length (labels_below E 0) ≡ 4)
unfolding raised with_count pasted below same_bytes class_of padding formed some_no_space well_formed first_from some_below every_below listed joined linked row_up_to label_row rows_below order_table name_of count_of pair_at is_named label_named label_kind over_kind marked_kind policy_kind is_lower_of is_lower is_placed at_end scan_from policy_of pairs_of order_of sum sum_where select weighed weight in_smallest smallest label_keys total takes best plan planned plan_of
least_met = (refl, refl)
