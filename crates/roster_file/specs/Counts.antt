-- The counts that a roster gives (02, Ask 4): "Where a roster is given its counts replace those in `LB`, held accounts included, and sum to joins less
-- withdrawals."
use Rattle.std.specs.Prelude.{ℕ, zero, suc, ◌+◌, ◌<◌, Bool, false, cond, ◌↔◌, ◌≡◌, eqb, leb, length}
use mathlib.Core.List.{List, Memᴰ}
use Rattle.roster_file.specs.File.{entry_at, size_of}
use Rattle.roster_file.specs.Machine.{standing_of}
use Rattle.roster_file.specs.declared.Activity.{Activity}
use Rattle.roster_file.specs.declared.Entry.TheVariants.{Join, Move, Hold, Release, Withdraw, Refused}
use Rattle.roster_file.specs.declared.Entry.{Entry}
use Rattle.roster_file.specs.declared.Roster.{Roster}
use Rattle.roster_file.specs.declared.Standing.TheVariants.{Unknown, Withdrawn, On}
use Rattle.roster_file.specs.declared.Standing.{Standing}
use Rattle.trees.specs.Sums.{select}
use Rattle.trees.specs.Trees.{Once}

-- whether an account that stands so is on label l, "held accounts included"
abbrev pub is_on : (l : ℕ) → Standing → Bool
is_on l Unknown = false
is_on l Withdrawn = false
is_on l (On m activity) = eqb m l

-- whether account `number` is on label l
unfoldable pub stands_on : Roster → (l number : ℕ) → Bool
stands_on roster l number = is_on l (standing_of roster number)

-- a label's count: how many of the numbers up to 4,096 are on it
unfoldable pub count_in : Roster → (l : ℕ) → ℕ
count_in roster l = length (select (stands_on roster l) 4097)

-- the same in words: account `number` is on label l, active or held; k is the number of such accounts: there is a list of exactly their numbers, each once,
-- and k is its length
abbrev pub StandsOn : Roster → (l number : ℕ) → Type 0
StandsOn roster l number = (activity : Activity) × (standing_of roster number ≡ On l activity)

pub record AccountsOn (roster : Roster) (l k : ℕ) : Type 0 where
  pub list : List ℕ
  pub once : Once list
  pub exactly : (number : ℕ) → Memᴰ number list ↔ StandsOn roster l number
  pub long : length list ≡ k

-- every account that is on a label is on one of the policy's labels
abbrev pub Placed : (labels : ℕ) → Roster → Type 0
Placed labels roster = (number l : ℕ) (activity : Activity) → standing_of roster number ≡ On l activity → l < labels

-- how many of a file's records from byte `at` on, up to n of them, are joins; and withdrawals
abbrev pub is_join : Entry → ℕ
is_join (Join number target) = 1
is_join (Move number target) = 0
is_join (Hold number) = 0
is_join (Release number) = 0
is_join (Withdraw number) = 0
is_join (Refused n) = 0

abbrev pub is_withdrawal : Entry → ℕ
is_withdrawal (Join number target) = 0
is_withdrawal (Move number target) = 0
is_withdrawal (Hold number) = 0
is_withdrawal (Release number) = 0
is_withdrawal (Withdraw number) = 1
is_withdrawal (Refused n) = 0

unfoldable pub sum_from : (Entry → ℕ) → ℕ → (policy : List ℕ) (labels : ℕ) → List ℕ → (at : ℕ) → ℕ
sum_from one zero policy labels file at = 0
sum_from one (suc n) policy labels file at =
    cond (leb (length file) at) 0
    (let entry = entry_at policy labels file at in one entry + sum_from one n policy labels file (at + size_of entry))

-- the joins and the withdrawals of a file
unfoldable pub joins_in : (policy : List ℕ) (labels : ℕ) → List ℕ → ℕ
joins_in policy labels file = sum_from is_join (length file) policy labels file 0

unfoldable pub withdrawals_in : (policy : List ℕ) (labels : ℕ) → List ℕ → ℕ
withdrawals_in policy labels file = sum_from is_withdrawal (length file) policy labels file 0
