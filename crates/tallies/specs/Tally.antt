-- How the accounts of a roster are counted, one after the other.
use Rattle.std.specs.Prelude.{ℕ, length, None, Option, Some}
use Rattle.roster_file.specs.Counts.{stands_on}
use Rattle.roster_file.specs.declared.Roster.{Roster}
use Rattle.roster_file.specs.declared.Standing.TheVariants.{Unknown, Withdrawn, On}
use Rattle.roster_file.specs.declared.Standing.{Standing}
use Rattle.trees.specs.Sums.{select}

-- the label that an account stands on, if it is on one
abbrev pub place_in : Standing → Option ℕ
place_in Unknown = None
place_in Withdrawn = None
place_in (On l activity) = Some l

-- how many of the numbers below n are on label l
unfoldable pub count_to : Roster → (n l : ℕ) → ℕ
count_to roster n l = length (select (stands_on roster l) n)
