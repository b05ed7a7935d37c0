-- One account of the roster by value: where it stands in the array, how a record sees it, and what is handed back.
use Rattle.std.specs.Prelude.{◌≡◌, ℕ, ◌-◌, cond}
use Rattle.roster_file.specs.Machine.{Change, sets, refuses, is_number, standing_so}
use Rattle.roster_file.specs.declared.Account.{Account}
use Rattle.roster_file.specs.declared.Standing.TheVariants.{Unknown, Withdrawn, On}
use Rattle.roster_file.specs.declared.Standing.{Standing}
use Rattle.roster_file.specs.declared.Stepped.{Stepped}

-- the place of account `number` in the array, and the first place for a number out of 1 to 4,096
unfoldable pub place_of : (number : ℕ) → ℕ
place_of number = cond (is_number number) (number - 1) 0

-- how account `number` stands, if this is what stands at its place; a number out of 1 to 4,096 has no account, and is unknown
unfoldable pub seen_as : (number : ℕ) → Account → Standing
seen_as number account = cond (is_number number) account.standing Unknown

-- the account stands so from here on, and the record is not refused
abbrev pub stands_so : Standing → Stepped
stands_so s = record { refusal = 0; account = standing_so s }

-- the account after a change, and the number that the change is refused under; a refused change hands the account back
abbrev pub stepped_by : Account → Change → Stepped
stepped_by account (sets s) = stands_so s
stepped_by account (refuses n) = record { refusal = n; account = account }

-- what is handed back for a step that needs a label: what the step answers of an account's label, and else a refusal
abbrev pub OnLabel : Account → (ℕ → Stepped → Type 0) → Standing → Stepped → Type 0
OnLabel account step Unknown r = r ≡ stepped_by account (refuses 25)
OnLabel account step Withdrawn r = r ≡ stepped_by account (refuses 25)
OnLabel account step (On l activity) r = step l r
