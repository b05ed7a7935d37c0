-- 01, "The plan program and its text": the listing of policy E, and the line of a refused policy.
use Prim.Native.Nat.{ℕ}
use mathlib.Core.List.{List, [], ◌∷◌}
use mathlib.Core.Path.{◌≡◌, refl, sym, ◌∙◌}
use Rattle.format.specs.Names.{unpadded}
use Rattle.lists.specs.Tables.{concat_below}
use Rattle.plan_answers.proofs.WorkedExamples.{plan_e}
use Rattle.policy_file.proofs.Examples.{E}
use Rattle.policy_file.specs.File.{name_of, count_of}
use Rattle.policy_file.specs.Whole.{policy_of}
use Rattle.plan_texts.proofs.Plans.{plan_number}
use Rattle.decimals.proofs.Printed.{printed_accepted}
use Rattle.decimals.specs.Decimal.{digits_before, decimal}
use Rattle.decimals.specs.Worded.{worded, refused_text, printed_unless}
use Rattle.plan_texts.specs.Listing.{parent_name, names, numbers, line, last_line, listing, plan_text}
use Rattle.plan_texts.specs.Printed.{printed}

-- SUITE - 2 1 2
-- CURVES SUITE 3 2 3
-- CONV32 SUITE 5 1 5
-- ACCRUED CONV32 7 1 4
-- TOTAL 17
abbrev listing_e : List ℕ
listing_e =
    83 ∷ 85 ∷ 73 ∷ 84 ∷ 69 ∷ 32 ∷ 45 ∷ 32 ∷ 50 ∷ 32 ∷ 49 ∷ 32 ∷ 50 ∷ 10
    ∷ 67 ∷ 85 ∷ 82 ∷ 86 ∷ 69 ∷ 83 ∷ 32 ∷ 83 ∷ 85 ∷ 73 ∷ 84 ∷ 69 ∷ 32 ∷ 51 ∷ 32 ∷ 50 ∷ 32 ∷ 51 ∷ 10
    ∷ 67 ∷ 79 ∷ 78 ∷ 86 ∷ 51 ∷ 50 ∷ 32 ∷ 83 ∷ 85 ∷ 73 ∷ 84 ∷ 69 ∷ 32 ∷ 53 ∷ 32 ∷ 49 ∷ 32 ∷ 53 ∷ 10
    ∷ 65 ∷ 67 ∷ 67 ∷ 82 ∷ 85 ∷ 69 ∷ 68 ∷ 32 ∷ 67 ∷ 79 ∷ 78 ∷ 86 ∷ 51 ∷ 50 ∷ 32 ∷ 55 ∷ 32 ∷ 49 ∷ 32 ∷ 52 ∷ 10
    ∷ 84 ∷ 79 ∷ 84 ∷ 65 ∷ 76 ∷ 32 ∷ 49 ∷ 55 ∷ 10 ∷ []

pub text_e : plan_text E ≡ listing_e
unfolding plan_text listing concat_below line last_line names numbers worded parent_name unpadded name_of count_of decimal digits_before
text_e = rw plan_e

pub printed_e : printed E ≡ listing_e
unfolding printed
printed_e = printed_accepted (plan_text E) (sym (plan_number E (sym plan_e))) ∙ text_e

-- REFUSED 1
pub printed_empty : printed [] ≡ 82 ∷ 69 ∷ 70 ∷ 85 ∷ 83 ∷ 69 ∷ 68 ∷ 32 ∷ 49 ∷ 10 ∷ []
unfolding printed printed_unless refused_text worded decimal digits_before policy_of
printed_empty = refl
