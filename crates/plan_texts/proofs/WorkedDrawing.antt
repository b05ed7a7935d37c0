-- The drawing of policy E, and the line of a refused policy.
use Prim.Native.Nat.{ℕ}
use mathlib.Core.List.{List, [], ◌∷◌}
use mathlib.Core.Path.{◌≡◌, refl}
use Rattle.format.specs.Names.{unpadded}
use Rattle.lists.specs.Tables.{concat_below}
use Rattle.plan_answers.proofs.WorkedExamples.{listing, plan_e}
use Rattle.policy_file.proofs.Examples.{E}
use Rattle.policy_file.specs.File.{name_of, count_of}
use Rattle.policy_file.specs.Whole.{policy_of}
use Rattle.decimals.specs.Decimal.{digits_before, decimal}
use Rattle.decimals.specs.Worded.{worded, refused_text, printed_unless}
use Rattle.plan_texts.specs.DrawingAnswer.{printed_drawing}
use Rattle.plan_texts.specs.Drawing.{between, field, fields, node, edge, drawn, ending, drawing, dot_text}

-- digraph plan {
--   node [shape=box];
--   "SUITE" [label="SUITE\naccounts 2\nweight 2\nkeys 1"];
--   "CURVES" [label="CURVES\naccounts 3\nweight 3\nkeys 2"];
--   "SUITE" -> "CURVES";
--   "CONV32" [label="CONV32\naccounts 5\nweight 5\nkeys 1"];
--   "SUITE" -> "CONV32";
--   "ACCRUED" [label="ACCRUED\naccounts 4\nweight 7\nkeys 1"];
--   "CONV32" -> "ACCRUED";
--   label="TOTAL 17";
-- }
abbrev drawing_e : List ℕ
drawing_e =
    100 ∷ 105 ∷ 103 ∷ 114 ∷ 97 ∷ 112 ∷ 104 ∷ 32 ∷ 112 ∷ 108 ∷ 97 ∷ 110 ∷ 32 ∷ 123 ∷ 10
    ∷ 32 ∷ 32 ∷ 110 ∷ 111 ∷ 100 ∷ 101 ∷ 32 ∷ 91 ∷ 115 ∷ 104 ∷ 97 ∷ 112 ∷ 101 ∷ 61 ∷ 98 ∷ 111 ∷ 120 ∷ 93 ∷ 59 ∷ 10
    ∷ 32 ∷ 32 ∷ 34 ∷ 83 ∷ 85 ∷ 73 ∷ 84 ∷ 69 ∷ 34 ∷ 32 ∷ 91 ∷ 108 ∷ 97 ∷ 98 ∷ 101 ∷ 108 ∷ 61 ∷ 34 ∷ 83 ∷ 85 ∷ 73 ∷ 84 ∷ 69
    ∷ 92 ∷ 110 ∷ 97 ∷ 99 ∷ 99 ∷ 111 ∷ 117 ∷ 110 ∷ 116 ∷ 115 ∷ 32 ∷ 50
    ∷ 92 ∷ 110 ∷ 119 ∷ 101 ∷ 105 ∷ 103 ∷ 104 ∷ 116 ∷ 32 ∷ 50
    ∷ 92 ∷ 110 ∷ 107 ∷ 101 ∷ 121 ∷ 115 ∷ 32 ∷ 49 ∷ 34 ∷ 93 ∷ 59 ∷ 10
    ∷ 32 ∷ 32 ∷ 34 ∷ 67 ∷ 85 ∷ 82 ∷ 86 ∷ 69 ∷ 83 ∷ 34 ∷ 32 ∷ 91 ∷ 108 ∷ 97 ∷ 98 ∷ 101 ∷ 108 ∷ 61 ∷ 34 ∷ 67 ∷ 85 ∷ 82 ∷ 86 ∷ 69 ∷ 83
    ∷ 92 ∷ 110 ∷ 97 ∷ 99 ∷ 99 ∷ 111 ∷ 117 ∷ 110 ∷ 116 ∷ 115 ∷ 32 ∷ 51
    ∷ 92 ∷ 110 ∷ 119 ∷ 101 ∷ 105 ∷ 103 ∷ 104 ∷ 116 ∷ 32 ∷ 51
    ∷ 92 ∷ 110 ∷ 107 ∷ 101 ∷ 121 ∷ 115 ∷ 32 ∷ 50 ∷ 34 ∷ 93 ∷ 59 ∷ 10
    ∷ 32 ∷ 32 ∷ 34 ∷ 83 ∷ 85 ∷ 73 ∷ 84 ∷ 69 ∷ 34 ∷ 32 ∷ 45 ∷ 62 ∷ 32 ∷ 34 ∷ 67 ∷ 85 ∷ 82 ∷ 86 ∷ 69 ∷ 83 ∷ 34 ∷ 59 ∷ 10
    ∷ 32 ∷ 32 ∷ 34 ∷ 67 ∷ 79 ∷ 78 ∷ 86 ∷ 51 ∷ 50 ∷ 34 ∷ 32 ∷ 91 ∷ 108 ∷ 97 ∷ 98 ∷ 101 ∷ 108 ∷ 61 ∷ 34 ∷ 67 ∷ 79 ∷ 78 ∷ 86 ∷ 51 ∷ 50
    ∷ 92 ∷ 110 ∷ 97 ∷ 99 ∷ 99 ∷ 111 ∷ 117 ∷ 110 ∷ 116 ∷ 115 ∷ 32 ∷ 53
    ∷ 92 ∷ 110 ∷ 119 ∷ 101 ∷ 105 ∷ 103 ∷ 104 ∷ 116 ∷ 32 ∷ 53
    ∷ 92 ∷ 110 ∷ 107 ∷ 101 ∷ 121 ∷ 115 ∷ 32 ∷ 49 ∷ 34 ∷ 93 ∷ 59 ∷ 10
    ∷ 32 ∷ 32 ∷ 34 ∷ 83 ∷ 85 ∷ 73 ∷ 84 ∷ 69 ∷ 34 ∷ 32 ∷ 45 ∷ 62 ∷ 32 ∷ 34 ∷ 67 ∷ 79 ∷ 78 ∷ 86 ∷ 51 ∷ 50 ∷ 34 ∷ 59 ∷ 10
    ∷ 32 ∷ 32 ∷ 34 ∷ 65 ∷ 67 ∷ 67 ∷ 82 ∷ 85 ∷ 69 ∷ 68 ∷ 34 ∷ 32 ∷ 91 ∷ 108 ∷ 97 ∷ 98 ∷ 101 ∷ 108 ∷ 61 ∷ 34 ∷ 65 ∷ 67 ∷ 67 ∷ 82 ∷ 85 ∷ 69 ∷ 68
    ∷ 92 ∷ 110 ∷ 97 ∷ 99 ∷ 99 ∷ 111 ∷ 117 ∷ 110 ∷ 116 ∷ 115 ∷ 32 ∷ 52
    ∷ 92 ∷ 110 ∷ 119 ∷ 101 ∷ 105 ∷ 103 ∷ 104 ∷ 116 ∷ 32 ∷ 55
    ∷ 92 ∷ 110 ∷ 107 ∷ 101 ∷ 121 ∷ 115 ∷ 32 ∷ 49 ∷ 34 ∷ 93 ∷ 59 ∷ 10
    ∷ 32 ∷ 32 ∷ 34 ∷ 67 ∷ 79 ∷ 78 ∷ 86 ∷ 51 ∷ 50 ∷ 34 ∷ 32 ∷ 45 ∷ 62 ∷ 32 ∷ 34 ∷ 65 ∷ 67 ∷ 67 ∷ 82 ∷ 85 ∷ 69 ∷ 68 ∷ 34 ∷ 59 ∷ 10
    ∷ 32 ∷ 32 ∷ 108 ∷ 97 ∷ 98 ∷ 101 ∷ 108 ∷ 61 ∷ 34 ∷ 84 ∷ 79 ∷ 84 ∷ 65 ∷ 76 ∷ 32 ∷ 49 ∷ 55 ∷ 34 ∷ 59 ∷ 10
    ∷ 125 ∷ 10 ∷ []

drawn_e : drawing E listing ≡ drawing_e
unfolding drawing concat_below drawn node edge between ending fields field unpadded name_of count_of decimal digits_before
drawn_e = refl

pub dot_e : dot_text E ≡ drawing_e
unfolding dot_text
dot_e = rw plan_e drawn_e

-- REFUSED 1
pub printed_empty : printed_drawing [] ≡ 82 ∷ 69 ∷ 70 ∷ 85 ∷ 83 ∷ 69 ∷ 68 ∷ 32 ∷ 49 ∷ 10 ∷ []
unfolding printed_drawing printed_unless refused_text worded decimal digits_before policy_of
printed_empty = refl
