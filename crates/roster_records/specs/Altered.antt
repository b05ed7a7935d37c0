-- A roster in which one account took a step.
use Rattle.std.specs.Prelude.{◌≡◌, ℕ, get_or, set}
use Rattle.roster_file.specs.Machine.{standing_so}
use Rattle.roster_file.specs.declared.Account.{Account}
use Rattle.roster_file.specs.declared.Roster.{Roster}
use Rattle.roster_file.specs.declared.Standing.TheVariants.{Unknown}
use Rattle.roster_file.specs.declared.Stepped.{Stepped}
use Rattle.roster_steps.specs.Step.{place_of}

-- the account that stands at the place of a number
abbrev pub account_at : Roster → (number : ℕ) → Account
account_at roster number = get_or roster.accounts (place_of number) (standing_so Unknown)

-- the roster in which another account stands there
abbrev pub with_account : Roster → (number : ℕ) → Account → Roster
with_account roster number account = record { accounts = set roster.accounts (place_of number) account }

-- the account at the place of a number took a step, and stands as the step left it; the answer is the step's
pub record Altered (step : Account → Stepped → Type 0) (number : ℕ) (old new : Roster) (answer : ℕ) : Type 0 where
  pub taken : Stepped
  pub took : step (account_at old number) taken
  pub answers : answer ≡ taken.refusal
  pub leaves : new ≡ with_account old number taken.account
