-- What the writing of a roster's lines asks for: a label that an account stands on has its record in the policy file.
use Rattle.std.specs.Prelude.{ℕ, ◌+◌, ◌*◌, ◌≤◌, List, ◌≡◌, length}
use Rattle.roster_file.specs.Machine.{standing_of}
use Rattle.roster_file.specs.declared.Activity.{Activity}
use Rattle.roster_file.specs.declared.Roster.{Roster}
use Rattle.roster_file.specs.declared.Standing.TheVariants.{On}
use Rattle.roster_file.specs.declared.Standing.{Standing}

-- the label of an account that stands so
abbrev pub HasName : (policy : List ℕ) → Standing → Type 0
HasName policy s = (l : ℕ) (activity : Activity) → s ≡ On l activity → 12 * l + 12 ≤ length policy

-- of every account
abbrev pub HaveNames : (policy : List ℕ) → Roster → Type 0
HaveNames policy roster = (number : ℕ) → HasName policy (standing_of roster number)
