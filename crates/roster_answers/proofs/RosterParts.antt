-- The parts of a roster's text, and their lengths.
use Prim.Native.Nat.{ℕ, suc, ◌+◌, ◌≤◌, ◌<◌}
use mathlib.Core.List.{List, [], ◌++◌}
use mathlib.Core.Path.{◌≡◌, refl, sym, ap, ap₂, ◌∙◌}
use native.Mathlib.Omega.{arith}
use lib.ListN.{length, length-append}
use Rattle.decimals.specs.Decimal.{decimal}
use Rattle.decimals.specs.Text.{bytes_of}
use Rattle.decimals.specs.Worded.{space, worded}
use Rattle.format.specs.Names.{unpadded}
use Rattle.lists.proofs.Concat.{concat_same}
use Rattle.lists.proofs.Tables.{get_d_listed}
use Rattle.lists.specs.Tables.{listed, concat_below}
use Rattle.plan_texts.specs.Listing.{total_word}
use Rattle.policy_file.specs.File.{name_of}
use Rattle.roster_file.specs.Counts.{count_in}
use Rattle.roster_file.specs.declared.Activity.{Activity}
use Rattle.roster_file.specs.declared.Roster.{Roster}
use Rattle.roster_file.specs.declared.Standing.TheVariants.{Unknown, Withdrawn, On}
use Rattle.trees.proofs.Sums.{sum_cong}
use Rattle.trees.specs.Sums.{sum}
use Rattle.weights.specs.Tables.{entries}
use Rattle.roster_answers.specs.RosterText.{activity_word, account_line, line_at, count_line, roster_listing}

-- the line of an account
module _ (policy : List ℕ) (number : ℕ) where
  pub unknown_none : account_line policy number Unknown ≡ []
  unfolding account_line
  unknown_none = refl

  pub withdrawn_length : length (account_line policy number Withdrawn) ≡ length (decimal number) + 13
  unfolding account_line bytes_of
  withdrawn_length = length-append (decimal number) (bytes_of " - withdrawn\n")

  module _ (l : ℕ) (activity : Activity) where
    pub placed_parts : account_line policy number (On l activity) ≡ decimal number ++ (space ++ unpadded (name_of policy l)) ++ activity_word activity
    unfolding account_line
    placed_parts = refl

    pub placed_length : length (account_line policy number (On l activity))
        ≡ length (decimal number) + suc (length (unpadded (name_of policy l))) + length (activity_word activity)
    placed_length = rw placed_parts (simp length-append (omega arith))

three_lengths : (a b c : List ℕ) → length (a ++ b ++ c) ≡ length a + length b + length c
three_lengths a b c = simp length-append

module _ (policy : List ℕ) (n : ℕ) (roster : Roster) where
  pub listing_length : length (roster_listing policy n roster)
      ≡ length (concat_below (line_at policy roster) 4096) + length (concat_below (count_line policy (count_in roster)) n) + length (worded total_word (sum (count_in roster) n))
  unfolding roster_listing
  listing_length = three_lengths (concat_below (line_at policy roster) 4096) (concat_below (count_line policy (count_in roster)) n) (worded total_word (sum (count_in roster) n))

  -- the accounts on each label, from a table of them
  module _ (counts : List ℕ) (same : counts ≡ listed (count_in roster) 64) (few : n ≤ 64) where
    counted : (l : ℕ) → l < n → entries counts l ≡ count_in roster l
    counted l h = ap (λ (table : List ℕ). entries table l) same ∙ get_d_listed (count_in roster) 64 l 0 (omega arith)

    pub counted_lines : concat_below (count_line policy (entries counts)) n ≡ concat_below (count_line policy (count_in roster)) n
    unfolding count_line
    counted_lines =
        concat_same (count_line policy (entries counts)) (count_line policy (count_in roster)) n (λ l h. ap (worded (unpadded (name_of policy l))) (counted l h))

    pub counted_sum : sum (entries counts) n ≡ sum (count_in roster) n
    counted_sum = sum_cong (entries counts) (count_in roster) n counted

    pub listing_parts : roster_listing policy n roster
        ≡ concat_below (line_at policy roster) 4096 ++ concat_below (count_line policy (entries counts)) n ++ worded total_word (sum (entries counts) n)
    unfolding roster_listing
    listing_parts =
        ap₂ (λ (lines : List ℕ) (total : ℕ). concat_below (line_at policy roster) 4096 ++ lines ++ worded total_word total) (sym counted_lines) (sym counted_sum)
