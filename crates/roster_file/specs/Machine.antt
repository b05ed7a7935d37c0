-- The machine of 02, Ask 4: what a record does to its account, and so to the roster. "An account is unknown, withdrawn, or on a label and either active
-- or held."
use Rattle.std.specs.Prelude.{ℕ, ◌-◌, Bool, cond, ◌&&◌, leb, get_or, set, replicate, None, Option, Some}
use Rattle.roster_file.specs.declared.Account.{Account}
use Rattle.roster_file.specs.declared.Activity.TheVariants.{Active, Held}
use Rattle.roster_file.specs.declared.Entry.TheVariants.{Join, Move, Hold, Release, Withdraw, Refused}
use Rattle.roster_file.specs.declared.Entry.{Entry}
use Rattle.roster_file.specs.declared.Roster.{Roster}
use Rattle.roster_file.specs.declared.Standing.TheVariants.{Unknown, Withdrawn, On}
use Rattle.roster_file.specs.declared.Standing.{Standing}

-- ---- one account

-- what a record asks for: that its account stands so from here on, or that the record is refused under a number
pub data Change : Type 0 where
  sets : Standing → Change
  refuses : ℕ → Change

-- "Numbers are 2 bytes, 1 to 4,096."
unfoldable pub is_number : ℕ → Bool
is_number number = leb 1 number && leb number 4096

-- "A join or a move sets it active on the named label."; 13, "name asked for is not in the policy"
abbrev pub placing : Option ℕ → Change
placing (Some l) = sets (On l Active)
placing None = refuses 13

-- `JN`; "24: join with a number out of 1 to 4,096 or already used, even if withdrawn."
abbrev pub joining : (number : ℕ) → Option ℕ → Standing → Change
joining number target Unknown = cond (is_number number) (placing target) (refuses 24)
joining number target Withdrawn = refuses 24
joining number target (On l activity) = refuses 24

-- `MV`; "25: other record for an account unknown or withdrawn."
abbrev pub moving : Option ℕ → Standing → Change
moving target Unknown = refuses 25
moving target Withdrawn = refuses 25
moving target (On l activity) = placing target

-- `HD`; "Holding a held account .. changes nothing."
abbrev pub holding : Standing → Change
holding Unknown = refuses 25
holding Withdrawn = refuses 25
holding (On l activity) = sets (On l Held)

-- `RL`; "releasing an active one changes nothing"
abbrev pub releasing : Standing → Change
releasing Unknown = refuses 25
releasing Withdrawn = refuses 25
releasing (On l activity) = sets (On l Active)

-- `WD`
abbrev pub withdrawing : Standing → Change
withdrawing Unknown = refuses 25
withdrawing Withdrawn = refuses 25
withdrawing (On l activity) = sets Withdrawn

-- ---- the roster

-- an account that stands so
abbrev pub standing_so : Standing → Account
standing_so s = record { standing = s }

-- "from an empty roster": every account is unknown
abbrev pub empty_roster : Roster
empty_roster = record { accounts = replicate 4096 (standing_so Unknown) }

-- how account `number` stands; a number out of 1 to 4,096 has no account, and is unknown
unfoldable pub standing_of : Roster → (number : ℕ) → Standing
standing_of roster number = cond (is_number number) (get_or roster.accounts (number - 1) (standing_so Unknown)).standing Unknown

-- account `number`, of 1 to 4,096, stands so from here on, and every other as before
unfoldable pub with_standing : Roster → (number : ℕ) → Standing → Roster
with_standing roster number s = record { accounts = set roster.accounts (number - 1) (standing_so s) }

-- the number that a record is refused under, 0 if it is not
abbrev pub number_of : Change → ℕ
number_of (sets s) = 0
number_of (refuses n) = n

-- "The roster in hand is lent to each record and altered there": the roster after a change to account `number`. A refused record leaves it as it was.
abbrev pub changed : Roster → (number : ℕ) → Change → Roster
changed roster number (sets s) = with_standing roster number s
changed roster number (refuses n) = roster

-- which account a record is about, and what it asks for; a record that is refused as it is read asks for nothing else
abbrev pub account_of : Entry → ℕ
account_of (Join number target) = number
account_of (Move number target) = number
account_of (Hold number) = number
account_of (Release number) = number
account_of (Withdraw number) = number
account_of (Refused n) = 0

abbrev pub asking : Entry → Standing → Change
asking (Join number target) s = joining number target s
asking (Move number target) s = moving target s
asking (Hold number) s = holding s
asking (Release number) s = releasing s
asking (Withdraw number) s = withdrawing s
asking (Refused n) s = refuses n

-- what a record asks for with this roster in hand
unfoldable pub asked_of : Roster → Entry → Change
asked_of roster entry = asking entry (standing_of roster (account_of entry))
