-- A roster as text, in ASCII: a line for each account that is not unknown, in the order of their numbers, then each label's
-- accounts, and the accounts of all labels. As in a plan, "one space parts the fields, and every line ends in one line feed".
use Rattle.std.specs.Prelude.{ℕ, suc, List, [], ◌++◌}
use Rattle.buffers.specs.Handed.{written_unless, buffer_unless}
use Rattle.buffers.specs.declared.Written.{Written}
use Rattle.decimals.specs.Decimal.{decimal}
use Rattle.decimals.specs.Text.{bytes_of}
use Rattle.decimals.specs.Worded.{space, worded}
use Rattle.format.specs.Names.{unpadded}
use Rattle.lists.specs.Tables.{concat_below}
use Rattle.plan_texts.specs.Listing.{total_word}
use Rattle.policy_file.specs.File.{name_of}
use Rattle.policy_file.specs.Whole.{label_count}
use Rattle.roster_file.specs.Counts.{count_in}
use Rattle.roster_file.specs.Machine.{standing_of}
use Rattle.roster_file.specs.declared.Activity.TheVariants.{Active, Held}
use Rattle.roster_file.specs.declared.Activity.{Activity}
use Rattle.roster_file.specs.declared.Roster.{Roster}
use Rattle.roster_file.specs.declared.Standing.TheVariants.{Unknown, Withdrawn, On}
use Rattle.roster_file.specs.declared.Standing.{Standing}
use Rattle.trees.specs.Sums.{sum}
use Rattle.roster_answers.specs.Rostered.{files_refusal, roster_of}

-- ` active` and ` held`, at a line's end
abbrev pub activity_word : Activity → List ℕ
activity_word Active = bytes_of " active\n"
activity_word Held = bytes_of " held\n"

-- an account's line: `17 CURVES active`, `17 CURVES held`, `17 - withdrawn`; none if it is unknown
unfoldable pub account_line : (policy : List ℕ) (number : ℕ) → Standing → List ℕ
account_line policy number Unknown = []
account_line policy number Withdrawn = decimal number ++ bytes_of " - withdrawn\n"
account_line policy number (On l activity) = decimal number ++ (space ++ unpadded (name_of policy l)) ++ activity_word activity

-- the line of the account at place i, whose number is i + 1
unfoldable pub line_at : (policy : List ℕ) → Roster → (i : ℕ) → List ℕ
line_at policy roster i = account_line policy (suc i) (standing_of roster (suc i))

-- a label's line: `CURVES 3`
unfoldable pub count_line : (policy : List ℕ) (count : ℕ → ℕ) (l : ℕ) → List ℕ
count_line policy count l = worded (unpadded (name_of policy l)) (count l)

-- the lines of all accounts, of n labels, and the last: `TOTAL 17`
unfoldable pub roster_listing : (policy : List ℕ) (n : ℕ) → Roster → List ℕ
roster_listing policy n roster =
    concat_below (line_at policy roster) 4096 ++ concat_below (count_line policy (count_in roster)) n ++ worded total_word (sum (count_in roster) n)

-- the text of accepted files
unfoldable pub roster_text : (policy roster : List ℕ) → List ℕ
roster_text policy roster = roster_listing policy (label_count policy) (roster_of policy roster)

-- what `roster_text` answers and leaves
unfoldable pub roster_written : (policy roster : List ℕ) → (room : ℕ) → Written
roster_written policy roster room = written_unless (files_refusal policy roster) (roster_text policy roster) room

unfoldable pub roster_after : (policy roster out : List ℕ) → List ℕ
roster_after policy roster out = buffer_unless (files_refusal policy roster) (roster_text policy roster) out
