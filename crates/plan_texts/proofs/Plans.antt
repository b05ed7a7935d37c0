-- The plan of every policy file can be printed, and 4,096 bytes always have room for its text.
use Prim.Native.Nat.{ℕ, ◌+◌, ◌*◌, ◌≤◌}
use mathlib.Core.Bool.{Bool, true, false, cond}
use mathlib.Core.List.{List}
use mathlib.Core.Path.{◌≡◌, refl, ap}
use native.Mathlib.Omega.{arith}
use lib.Dec.{eqb}
use lib.ListN.{length, get_or, drop, length-take}
use Rattle.format.proofs.Padding.{unpadded_short}
use Rattle.format.specs.Names.{unpadded}
use Rattle.lists.proofs.Concat.{concat_short}
use Rattle.lists.proofs.Tables.{get_d_filled}
use Rattle.policy_file.proofs.Verdict.{bounds}
use Rattle.policy_file.specs.File.{name_of, count_of}
use Rattle.policy_file.specs.Whole.{policy_refusal, label_count}
use Rattle.trees.specs.Weights.{plan as tree}
use Rattle.weights.proofs.Reading.{plan_early}
use Rattle.plan_answers.specs.Planned.{at_or_below, planned, plan_of}
use Rattle.plan_answers.specs.declared.Plan.{Plan}
use Rattle.plan_texts.specs.Listing.{dash, parent_name, line, total_word, listing, plan_text}
use Rattle.plan_texts.specs.Printable.{Printable}
use Rattle.decimals.proofs.Digits.{decimal_short}
use Rattle.decimals.proofs.Worded.{worded_length}
use Rattle.plan_texts.proofs.ListingParts.{names_length, numbers_length, line_length, listing_length}

pub plan_printable : (file : List ℕ) → Printable file (plan_of file)
unfolding plan_of planned
plan_printable file = record {
  few = (bounds file).0;
  within = omega (arith, bounds file);
  parents = λ m h. omega (arith, get_d_filled (tree (label_count file) (count_of file) (at_or_below file)) 64 0 (label_count file) m 0 h, plan_early (label_count file) (count_of file) (at_or_below file) m);
}

-- its refusal is the policy's
pub plan_number : (file : List ℕ) {plan : Plan} → plan ≡ plan_of file → plan.refusal ≡ policy_refusal file
unfolding plan_of planned
plan_number file same = ap (λ (p : Plan). p.refusal) same

-- a name has at most 8 bytes
pub name_short : (file : List ℕ) (m : ℕ) → length (unpadded (name_of file m)) ≤ 8
unfolding name_of
name_short file m = omega (arith, unpadded_short (name_of file m), length-take 8 (drop (12 * m + 2) file))

module _ (file : List ℕ) (plan : Plan) where
  parent_short : (m : ℕ) → length (parent_name file plan m) ≤ 8
  unfolding parent_name
  parent_short m = go (eqb m 0)
    where
      go : (t : Bool) → length (cond t dash (unpadded (name_of file (get_or plan.parents m 0)))) ≤ 8
      go true = omega arith
      go false = name_short file (get_or plan.parents m 0)

  -- a line has at most 51 bytes
  line_short : (m : ℕ) → length (line file plan m) ≤ 51
  line_short m =
      let weight = get_or plan.weights m 0 in
      let size = get_or plan.sizes m 0 in
      let count = count_of file m in
      omega (
        arith,
        line_length file plan m count refl,
        names_length file plan m,
        name_short file m,
        parent_short m,
        numbers_length weight size count,
        decimal_short weight,
        decimal_short size,
        decimal_short count,
      )

  listing_short : plan.labels ≤ 64 → length (listing file plan) ≤ 3281
  listing_short few =
      omega (
        arith,
        listing_length file plan,
        concat_short (line file plan) 51 line_short plan.labels,
        worded_length total_word plan.total,
        decimal_short plan.total,
      )

-- 64 lines of 51 bytes and a last line of 17: a buffer of 4,096 bytes has room for every text
pub text_suffices : (file : List ℕ) → length (plan_text file) ≤ 3281
unfolding plan_text
text_suffices file = listing_short file (plan_of file) (plan_printable file).few
