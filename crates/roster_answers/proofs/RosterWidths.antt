-- 98,304 bytes always have room for the text of a roster.
use Prim.Native.Nat.{ℕ, zero, suc, ◌+◌, ◌/◌, ◌%◌, ◌^◌, ◌≤◌, ◌<◌}
use mathlib.Core.Bool.{Bool, true, false, cond}
use mathlib.Core.List.{List, [], ◌∷◌}
use mathlib.Core.Path.{◌≡◌, refl}
use native.Mathlib.Decide.{dec_le}
use native.Mathlib.Omega.{arith}
use borrow.Author.Tests.{ltb-false, le-leb, lt-leb}
use lib.Dec.{ltb}
use lib.ListN.{length}
use Rattle.decimals.proofs.Worded.{worded_length}
use Rattle.decimals.specs.Decimal.{digit, digits_before, decimal}
use Rattle.decimals.specs.Text.{bytes_of}
use Rattle.decimals.specs.Worded.{worded}
use Rattle.format.specs.Names.{unpadded}
use Rattle.lists.proofs.Concat.{concat_short}
use Rattle.lists.specs.Tables.{listed, concat_below}
use Rattle.plan_texts.proofs.Plans.{name_short}
use Rattle.plan_texts.specs.Listing.{total_word}
use Rattle.policy_file.specs.File.{name_of}
use Rattle.roster_file.specs.Counts.{stands_on, count_in}
use Rattle.roster_file.specs.Machine.{is_number, standing_of}
use Rattle.roster_file.specs.declared.Activity.TheVariants.{Active, Held}
use Rattle.roster_file.specs.declared.Activity.{Activity}
use Rattle.roster_file.specs.declared.Roster.{Roster}
use Rattle.roster_file.specs.declared.Standing.TheVariants.{Unknown, Withdrawn, On}
use Rattle.roster_file.specs.declared.Standing.{Standing}
use Rattle.trees.proofs.Select.{select_short}
use Rattle.trees.proofs.Sums.{sum_bound}
use Rattle.trees.specs.Sums.{sum}
use Rattle.weights.specs.Tables.{entries}
use Rattle.roster_answers.specs.RosterText.{activity_word, account_line, line_at, count_line, roster_listing}
use Rattle.roster_answers.proofs.RosterParts.{unknown_none, withdrawn_length, placed_length, listing_length, counted_lines, counted_sum}

-- a number below 10 ^ k has at most k digits, for k from 1 on
digits_few : (k n x : ℕ) (behind : List ℕ) → x < 10 ^ suc k → length (digits_before n x behind) ≤ suc k + length behind
unfolding digits_before
digits_few k zero x behind h = omega arith
digits_few k (suc n) x behind h = go k h (ltb x 10) refl (λ j l. digits_few j n (x / 10) (digit (x % 10) ∷ behind) l)
  where
    go : (k : ℕ) → x < 10 ^ suc k → (one : Bool) → ltb x 10 ≡ one
        → ((j : ℕ) → x / 10 < 10 ^ suc j → length (digits_before n (x / 10) (digit (x % 10) ∷ behind)) ≤ suc j + suc (length behind))
        → length (cond one (digit x ∷ behind) (digits_before n (x / 10) (digit (x % 10) ∷ behind))) ≤ suc k + length behind
    go k h true e rest = omega arith
    go zero h false e rest = absurd (omega (arith, ltb-false x 10 e))
    go (suc j) h false e rest = omega (arith, rest j (omega arith))

four_digits : (x : ℕ) → x < 10_000 → length (decimal x) ≤ 4
unfolding decimal
four_digits x h = digits_few 3 10 x [] h

six_digits : (x : ℕ) → x < 1_000_000 → length (decimal x) ≤ 6
unfolding decimal
six_digits x h = digits_few 5 10 x [] h

word_short : (activity : Activity) → length (activity_word activity) ≤ 8
unfolding bytes_of
word_short Active = omega arith
word_short Held = omega arith

module _ (policy : List ℕ) where
  -- an account's line has at most 21 bytes: a number of 4 digits, a space, a name of 8 bytes and ` active`
  account_short : (number : ℕ) → number < 10_000 → (s : Standing) → length (account_line policy number s) ≤ 21
  unfolding account_line
  account_short number h Unknown = omega arith
  account_short number h Withdrawn = omega (arith, withdrawn_length policy number, four_digits number h)
  account_short number h (On l activity) =
      omega (arith, placed_length policy number l activity, four_digits number h, name_short policy l, word_short activity)

  module _ (roster : Roster) where
    -- numbers past 4,096 have no account
    past : (number : ℕ) → 4096 < number → standing_of roster number ≡ Unknown
    unfolding standing_of is_number
    past number h = rw (le-leb 1 number (omega arith), lt-leb number 4096 h)

    line_short : (i : ℕ) → length (line_at policy roster i) ≤ 21
    unfolding line_at
    line_short i = go (dec_le 4096 i)
      where
        go : Dec (4096 ≤ i) → length (account_line policy (suc i) (standing_of roster (suc i))) ≤ 21
        go (yes h) = rw (past (suc i) (omega arith), unknown_none policy (suc i)) (omega arith)
        go (no h) = account_short (suc i) (omega arith) (standing_of roster (suc i))

    count_few : (l : ℕ) → count_in roster l ≤ 4097
    unfolding count_in
    count_few l = select_short (stands_on roster l) 4097

    -- a label's line has at most 14: a name, a space and a number of 4 digits
    count_short : (l : ℕ) → length (count_line policy (count_in roster) l) ≤ 14
    unfolding count_line
    count_short l =
        omega (arith, worded_length (unpadded (name_of policy l)) (count_in roster l), name_short policy l, four_digits (count_in roster l) (omega (arith, count_few l)))

    sum_few : (n : ℕ) → n ≤ 64 → sum (count_in roster) n < 1_000_000
    sum_few n few = omega (arith, sum_bound (count_in roster) 4097 n (λ l h. count_few l))

    -- 4,096 lines of 21 bytes, 64 of 14 and the last of 13
    pub listing_short : (n : ℕ) → n ≤ 64 → length (roster_listing policy n roster) ≤ 86_925
    listing_short n few =
        omega (
          arith,
          listing_length policy n roster,
          concat_short (line_at policy roster) 21 line_short 4096,
          concat_short (count_line policy (count_in roster)) 14 count_short n,
          worded_length total_word (sum (count_in roster) n),
          six_digits (sum (count_in roster) n) (sum_few n few),
        )

    -- the same for its parts, with a table of the counts
    pub parts_short : (n : ℕ) → n ≤ 64 → (counts : List ℕ) → counts ≡ listed (count_in roster) 64
        → length (concat_below (line_at policy roster) 4096) + length (concat_below (count_line policy (entries counts)) n) + length (worded total_word (sum (entries counts) n)) ≤ 86_925
    parts_short n few counts same =
        rw (counted_lines policy n roster counts same few, counted_sum policy n roster counts same few)
        (omega (arith, listing_length policy n roster, listing_short n few))
