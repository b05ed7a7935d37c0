-- The lines of accounts and labels, one more with each turn of a loop.
use Prim.Native.Nat.{ℕ, zero, suc, ◌+◌, ◌*◌, ◌≤◌, ◌<◌}
use mathlib.Core.List.{List, [], ◌∷◌, ◌++◌}
use mathlib.Core.Path.{◌≡◌, refl, sym, ap, ap₂, ◌∙◌}
use native.Mathlib.Numerals.{add-one}
use Rattle.std.proofs.Common.{zero-add}
use native.Mathlib.Omega.{arith}
use lib.ListN.{length, get_or, take}
use lib.Seq.{take-suc}
use Rattle.std.specs.List.{sum as sum_of}
use Rattle.std.proofs.lemmas.List.Sums.{sum_by-append}
use Rattle.trees.specs.Sums.{sum}
use Rattle.weights.specs.Tables.{entries}
use Rattle.buffers.specs.Put.{Put}
use Rattle.decimals.specs.Worded.{worded}
use Rattle.format.specs.Names.{unpadded}
use Rattle.lists.specs.Tables.{concat_below}
use Rattle.policy_file.specs.File.{name_of}
use Rattle.roster_answers.specs.RosterText.{account_line, line_at, count_line}
use Rattle.roster_file.proofs.Places.{standing_at, standing_next}
use Rattle.roster_file.specs.Counts.{Placed}
use Rattle.roster_file.specs.Machine.{standing_so}
use Rattle.roster_file.specs.declared.Roster.{Roster}
use Rattle.roster_file.specs.declared.Standing.TheVariants.{Unknown}
use Rattle.roster_file.specs.declared.Standing.{Standing}
use Rattle.roster_lines.specs.Named.{HasName, HaveNames}

-- parts in a row: none, and one more
module _ (f : ℕ → List ℕ) where
  pub concat_none : concat_below f 0 ≡ []
  unfolding concat_below
  concat_none = refl

  pub concat_more : (n : ℕ) → concat_below f (n + 1) ≡ concat_below f n ++ f n
  unfolding concat_below
  concat_more n = rw add-one

module _ (policy : List ℕ) where
  -- the account at place i
  module _ (roster : Roster) (i : ℕ) (h : i < 4096) where
    abbrev here : Standing
    here = (get_or roster.accounts i (standing_so Unknown)).standing

    pub account_line_lem : account_line policy (i + 1) here ≡ line_at policy roster i
    unfolding line_at
    account_line_lem = ap₂ (account_line policy) (add-one i) (sym (standing_next roster i h))

    pub account_put : {d e : List ℕ} {at number r : ℕ} → Put d e at (account_line policy number here) r → number ≡ i + 1 → Put d e at (line_at policy roster i) r
    account_put p e = rw (e, account_line_lem) at p

    pub account_named : HaveNames policy roster → HasName policy here
    account_named names l activity e = names (i + 1) l activity (standing_at roster i h ∙ e)

  -- labels below `labels` have records in the policy
  pub placed_named : (labels : ℕ) (roster : Roster) → 12 * labels ≤ length policy → Placed labels roster → HaveNames policy roster
  placed_named labels roster within placed number l activity e = omega (arith, placed number l activity e)

  -- a label's line, with its count in hand
  pub count_line_lem : (count : ℕ → ℕ) (l : ℕ) {x : ℕ} → x ≡ count l → worded (unpadded (name_of policy l)) x ≡ count_line policy count l
  unfolding count_line
  count_line_lem count l e = ap (worded (unpadded (name_of policy l))) e

-- the first n entries of a table, as a list and as a function
pub sum_first : (table : List ℕ) (n : ℕ) → n ≤ length table → sum_of (take n table) ≡ sum (entries table) n
unfolding sum
sum_first table zero h = refl
sum_first table (suc n) h =
    rw (take-suc table n 0 (omega arith), sum_by-append (λ (x : ℕ). x) (take n table) (get_or table n 0 ∷ [])) (ap₂ ◌+◌ (sum_first table n (omega arith)) (zero-add (get_or table n 0)))
