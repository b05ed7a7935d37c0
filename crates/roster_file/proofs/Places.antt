-- The accounts of a roster by place.
use Prim.Native.Nat.{ℕ, suc, ◌+◌, ◌<◌}
use mathlib.Core.Path.{◌≡◌, sym, ap, ◌∙◌}
use native.Mathlib.Numerals.{add-one}
use native.Mathlib.Omega.{arith}
use borrow.Author.Tests.{le-leb}
use lib.ListN.{get_or}
use Rattle.roster_file.specs.Machine.{is_number, standing_so, standing_of}
use Rattle.roster_file.specs.declared.Roster.{Roster}
use Rattle.roster_file.specs.declared.Standing.TheVariants.{Unknown}

-- the account at place i is number i + 1
module _ (roster : Roster) (i : ℕ) (h : i < 4096) where
  pub standing_at : standing_of roster (i + 1) ≡ (get_or roster.accounts i (standing_so Unknown)).standing
  unfolding standing_of is_number
  standing_at =
      rw (le-leb 1 (i + 1) (omega arith), le-leb (i + 1) 4096 (omega arith))
      (ap (λ (k : ℕ). (get_or roster.accounts k (standing_so Unknown)).standing) (omega arith))

  pub standing_next : standing_of roster (suc i) ≡ (get_or roster.accounts i (standing_so Unknown)).standing
  standing_next = ap (standing_of roster) (sym (add-one i)) ∙ standing_at
