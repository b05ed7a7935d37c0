-- The counts of an accepted roster, and the policy that has them.
use Prim.Native.Nat.{ℕ, ◌+◌, ◌≤◌, ◌<◌}
use mathlib.Core.List.{List}
use mathlib.Core.Path.{◌≡◌, sym, ◌∙◌}
use native.Mathlib.Omega.{arith}
use Rattle.issuer_answers.specs.Rows.{NoLabel, other_length, not_there, LabelOf}
use Rattle.policy_file.proofs.Recounted.{counts_replaced}
use Rattle.policy_file.specs.Counts.{OtherCounts}
use Rattle.policy_file.specs.Whole.{label_count}
use Rattle.roster_file.proofs.Counted.{count_is, count_few, count_past}
use Rattle.roster_file.proofs.CountsSum.{counts_sum}
use Rattle.roster_file.proofs.Stopping.{stop_placed}
use Rattle.roster_file.specs.Counts.{AccountsOn, Placed, joins_in, withdrawals_in}
use Rattle.trees.specs.Sums.{sum}
use Rattle.roster_answers.specs.Rostered.{AcceptedFiles, roster_of, roster_count, counted_policy}
use Rattle.roster_answers.proofs.Counted.{files_roster, accepted_policy}

module _ (policy roster : List ℕ) where
  pub roster_count_lem : (l : ℕ) → AccountsOn (roster_of policy roster) l (roster_count policy roster l)
  roster_count_lem l = count_is (roster_of policy roster) l

  pub roster_few : (l : ℕ) → roster_count policy roster l ≤ 4096
  roster_few l = count_few (roster_of policy roster) l

  pub roster_placed : Placed (label_count policy) (roster_of policy roster)
  unfolding roster_of
  roster_placed = stop_placed policy (label_count policy) roster

  pub roster_past : (l : ℕ) → label_count policy ≤ l → roster_count policy roster l ≡ 0
  roster_past l h = count_past (roster_of policy roster) l (label_count policy) roster_placed h

  module _ (ok : AcceptedFiles policy roster) where
    -- "and sum to joins less withdrawals"
    pub roster_sum : sum (roster_count policy roster) (label_count policy) + withdrawals_in policy (label_count policy) roster ≡ joins_in policy (label_count policy) roster
    unfolding roster_of
    roster_sum = counts_sum policy (label_count policy) roster (sym (files_roster policy roster (accepted_policy policy roster ok)) ∙ ok)

    -- "Where a roster is given its counts replace those in `LB`"
    pub counted_other : OtherCounts policy (counted_policy policy roster) (roster_count policy roster)
    unfolding counted_policy
    counted_other = counts_replaced policy (accepted_policy policy roster ok) (roster_count policy roster) (λ m hm. omega (arith, roster_few m))

    -- so it has the names of the first
    module _ (name : List ℕ) where
      pub counted_label : {l : ℕ} → LabelOf policy name l → LabelOf (counted_policy policy roster) name l
      counted_label {l} h = record {
        accepted = counted_other.accepted;
        label = omega (arith, h.label, counted_other.labels);
        named = counted_other.names l h.label ∙ h.named;
      }

      pub counted_none : NoLabel policy name → NoLabel (counted_policy policy roster) name
      counted_none (other_length ne) = other_length ne
      counted_none (not_there e none) =
          not_there e (λ i h same. let hi : i < label_count policy = omega (arith, counted_other.labels) in none i hi (sym (counted_other.names i hi) ∙ same))
