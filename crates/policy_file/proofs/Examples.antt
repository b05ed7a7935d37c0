-- 01, "Checked by hand": the sentences about policy files.
use Prim.Native.Nat.{ℕ}
use mathlib.Core.List.{List, [], ◌∷◌, ◌++◌, map}
use mathlib.Core.Path.{◌≡◌, refl}
use lib.ListN.{take}
use Rattle.format.specs.Bytes.{same_bytes}
use Rattle.format.specs.Names.{class_of, padding, formed, some_no_space, well_formed}
use Rattle.format.specs.Search.{first_from}
use Rattle.order.specs.declared.Pair.{Pair}
use Rattle.policy_file.specs.File.{name_of, count_of, pair_at, is_named, label_named}
use Rattle.policy_file.specs.Record.{label_kind, over_kind, marked_kind, policy_kind}
use Rattle.lists.specs.Tables.{some_below, every_below}
use Rattle.policy_file.specs.Whole.{is_lower_of, is_lower, is_placed, at_end, scan_from, policy_records_read, policy_of, policy_refusal}

-- an `LB` record from its name and count, an `OV` record from its two numbers
abbrev label : List ℕ → ℕ → ℕ → List ℕ
label name high low = 76 ∷ 66 ∷ name ++ (high ∷ low ∷ [])

abbrev over : ℕ → ℕ → List ℕ
over upper lower = 79 ∷ 86 ∷ upper ∷ lower ∷ []

abbrev pair : ℕ → ℕ → Pair
pair upper lower = record { upper = upper; lower = lower }

-- SUITE 2, CURVES 3, CONV32 5, ACCRUED 4
abbrev pub labels_e : List ℕ
labels_e =
    label (83 ∷ 85 ∷ 73 ∷ 84 ∷ 69 ∷ 32 ∷ 32 ∷ 32 ∷ []) 0 2
    ++ label (67 ∷ 85 ∷ 82 ∷ 86 ∷ 69 ∷ 83 ∷ 32 ∷ 32 ∷ []) 0 3
    ++ label (67 ∷ 79 ∷ 78 ∷ 86 ∷ 51 ∷ 50 ∷ 32 ∷ 32 ∷ []) 0 5
    ++ label (65 ∷ 67 ∷ 67 ∷ 82 ∷ 85 ∷ 69 ∷ 68 ∷ 32 ∷ []) 0 4

-- policy E, with pairs 0-1, 0-2, 1-3, 2-3
abbrev pub E : List ℕ
E = labels_e ++ over 0 1 ++ over 0 2 ++ over 1 3 ++ over 2 3

-- one label with 7 accounts
abbrev pub one : List ℕ
one = label (65 ∷ 32 ∷ 32 ∷ 32 ∷ 32 ∷ 32 ∷ 32 ∷ 32 ∷ []) 0 7

-- the empty policy, one label, its record without the last byte, E, E without its last two pairs, E with 3-3, E with 3-4
pub verdicts : map policy_refusal
    ([] ∷ one ∷ take 11 one ∷ E ∷ take 56 E ∷ (E ++ over 3 3) ∷ (E ++ over 3 4) ∷ [])
    ≡ 1 ∷ 0 ∷ 3 ∷ 0 ∷ 10 ∷ 9 ∷ 8 ∷ []
unfolding same_bytes class_of padding formed some_no_space well_formed first_from some_below every_below name_of count_of pair_at is_named label_named label_kind over_kind marked_kind policy_kind is_lower_of is_lower is_placed at_end scan_from policy_of
verdicts = refl

-- a single byte left, a foreign mark, an `LB` cut short after a pair, an `LB` after a pair, a name with a space before a letter,
-- a name of spaces, a name carried before, a first `OV`
pub orders : map policy_refusal
    ((one ++ (76 ∷ [])) ∷ (one ++ (84 ∷ 82 ∷ [])) ∷ (E ++ take 11 one) ∷ (E ++ one)
    ∷ label (65 ∷ 32 ∷ 65 ∷ 32 ∷ 32 ∷ 32 ∷ 32 ∷ 32 ∷ []) 0 7 ∷ label (32 ∷ 32 ∷ 32 ∷ 32 ∷ 32 ∷ 32 ∷ 32 ∷ 32 ∷ []) 0 7
    ∷ (one ++ one) ∷ over 0 1 ∷ [])
    ≡ 2 ∷ 2 ∷ 3 ∷ 4 ∷ 6 ∷ 6 ∷ 7 ∷ 8 ∷ []
unfolding same_bytes class_of padding formed some_no_space well_formed first_from some_below every_below name_of count_of pair_at is_named label_named label_kind over_kind marked_kind policy_kind is_lower_of is_lower is_placed at_end scan_from policy_of
orders = refl

-- how many records are read of the empty policy, one label, its record without the last byte, E, E without its last two pairs, E with 3-3,
-- one label twice, and one label before a foreign mark
pub counts : map policy_records_read
    ([] ∷ one ∷ take 11 one ∷ E ∷ take 56 E ∷ (E ++ over 3 3) ∷ (one ++ one) ∷ (one ++ (84 ∷ 82 ∷ [])) ∷ [])
    ≡ 0 ∷ 1 ∷ 0 ∷ 8 ∷ 6 ∷ 8 ∷ 1 ∷ 1 ∷ []
unfolding same_bytes class_of padding formed some_no_space well_formed first_from name_of count_of pair_at is_named label_named label_kind over_kind marked_kind policy_kind scan_from policy_records_read
counts = refl

-- what is read of E: the counts and the pairs of its records
pub said : (take 5 (policy_of E).counts ≡ 2 ∷ 3 ∷ 5 ∷ 4 ∷ 0 ∷ []) × (take 5 (policy_of E).over ≡ pair 0 1 ∷ pair 0 2 ∷ pair 1 3 ∷ pair 2 3 ∷ pair 0 0 ∷ [])
unfolding same_bytes class_of padding formed some_no_space well_formed first_from some_below every_below name_of count_of pair_at is_named label_named label_kind over_kind marked_kind policy_kind is_lower_of is_lower is_placed at_end scan_from policy_of
said = (refl, refl)
