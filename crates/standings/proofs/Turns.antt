-- A number of each account, as a table that is filled from the front.
use Prim.Native.Nat.{ℕ, suc, ◌+◌, ◌<◌}
use mathlib.Core.List.{List, append-nil}
use mathlib.Core.Path.{◌≡◌, refl, sym, ap, ◌∙◌}
use lib.ListN.{get_or, set, replicate}
use Rattle.lists.proofs.Tables.{fill_more}
use Rattle.lists.specs.Tables.{listed, filled}
use Rattle.roster_file.proofs.Places.{standing_next}
use Rattle.roster_file.specs.Machine.{standing_so, standing_of}
use Rattle.roster_file.specs.declared.Roster.{Roster}
use Rattle.roster_file.specs.declared.Standing.TheVariants.{Unknown}
use Rattle.roster_file.specs.declared.Standing.{Standing}

module _ (number : Standing → ℕ) (roster : Roster) where
  -- the number of the account at place i
  abbrev pub numbered : ℕ → ℕ
  numbered i = number (standing_of roster (suc i))

  pub none_numbered : replicate 4096 0 ≡ filled 4096 0 numbered 0
  unfolding listed
  none_numbered = refl

  pub one_numbered : (i : ℕ) {x : ℕ} {table : List ℕ} → i < 4096 → table ≡ filled 4096 0 numbered i
      → x ≡ number (get_or roster.accounts i (standing_so Unknown)).standing → set table i x ≡ filled 4096 0 numbered (i + 1)
  one_numbered i h before e =
      rw (before, e ∙ ap number (sym (standing_next roster i h))) (fill_more numbered 4096 0 i h)

  pub all_numbered : filled 4096 0 numbered 4096 ≡ listed numbered 4096
  all_numbered = append-nil (listed numbered 4096)
