-- A step of one account, stored where the account stands, is the machine's record on the roster.
use Prim.Native.Nat.{ℕ, ◌-◌}
use mathlib.Core.Bool.{Bool, true, false}
use mathlib.Core.Path.{◌≡◌, refl, sym, ◌∙◌, ap, subst}
use mathlib.Core.List.{List}
use lib.ListN.{set}
use lib.Seq.{set-get_or}
use Rattle.roster_file.specs.Machine.{Change, sets, refuses, is_number, standing_so, standing_of, with_standing, number_of, changed}
use Rattle.roster_file.specs.declared.Account.{Account}
use Rattle.roster_file.specs.declared.Roster.{Roster}
use Rattle.roster_file.specs.declared.Standing.TheVariants.{Unknown}
use Rattle.roster_file.specs.declared.Standing.{Standing}
use Rattle.roster_file.specs.declared.Stepped.{Stepped}
use Rattle.roster_records.specs.Altered.{account_at, with_account, Altered}
use Rattle.roster_steps.specs.Step.{place_of, seen_as, stepped_by}

-- a change, made to the account by value and stored
abbrev stored : Roster → (number : ℕ) → Change → Roster
stored roster number change = with_account roster number (stepped_by (account_at roster number) change).account

place_in : (number : ℕ) → is_number number ≡ true → place_of number ≡ number - 1
unfolding place_of
place_in number has = rw has

seen_in : (roster : Roster) (number : ℕ) → is_number number ≡ true → seen_as number (account_at roster number) ≡ standing_of roster number
unfolding seen_as standing_of place_of
seen_in roster number has = rw has

seen_out : (roster : Roster) (number : ℕ) → is_number number ≡ false → seen_as number (account_at roster number) ≡ standing_of roster number
unfolding seen_as standing_of
seen_out roster number lacks = rw lacks

standing_out : (roster : Roster) (number : ℕ) → is_number number ≡ false → standing_of roster number ≡ Unknown
unfolding standing_of
standing_out roster number lacks = rw lacks

pub seen_is : (roster : Roster) (number : ℕ) → seen_as number (account_at roster number) ≡ standing_of roster number
seen_is roster number = go (is_number number) refl
  where
    go : (t : Bool) → is_number number ≡ t → seen_as number (account_at roster number) ≡ standing_of roster number
    go true has = seen_in roster number has
    go false lacks = seen_out roster number lacks

refusal_is : (account : Account) (change : Change) → (stepped_by account change).refusal ≡ number_of change
refusal_is account (sets s) = refl
refusal_is account (refuses n) = refl

-- storing back the account that stands there changes nothing
refused_stored : (roster : Roster) (number n : ℕ) → stored roster number (refuses n) ≡ roster
refused_stored roster number n = ap (λ (xs : List Account). record { accounts = xs }) (set-get_or roster.accounts (place_of number) (standing_so Unknown))

stored_in : (roster : Roster) (number : ℕ) → is_number number ≡ true → (change : Change) → stored roster number change ≡ changed roster number change
unfolding with_standing
stored_in roster number has (sets s) = ap (λ (i : ℕ). record { accounts = set roster.accounts i (standing_so s) }) (place_in number has)
stored_in roster number has (refuses n) = refused_stored roster number n

-- the change that a record asks for, by how its account stands; an unknown account with a number out of 1 to 4,096 is refused
stored_is : (ask : Standing → Change) (k : ℕ) (roster : Roster) (number : ℕ) → (is_number number ≡ false → ask Unknown ≡ refuses k)
    → stored roster number (ask (standing_of roster number)) ≡ changed roster number (ask (standing_of roster number))
stored_is ask k roster number outside = go (is_number number) refl
  where
    go : (t : Bool) → is_number number ≡ t → stored roster number (ask (standing_of roster number)) ≡ changed roster number (ask (standing_of roster number))
    go true has = stored_in roster number has (ask (standing_of roster number))
    go false lacks =
        let e = ap ask (standing_out roster number lacks) ∙ outside lacks in
        subst (λ (c : Change). stored roster number c ≡ changed roster number c) (sym e) (refused_stored roster number k)

-- and the change that the account itself asks for, as a record sees it: the number under which it is refused, and the roster in which it is stored
pub stepped_is : (ask : Standing → Change) (k : ℕ) (roster : Roster) (number : ℕ) → (is_number number ≡ false → ask Unknown ≡ refuses k)
    → ((stepped_by (account_at roster number) (ask (seen_as number (account_at roster number)))).refusal ≡ number_of (ask (standing_of roster number)))
    × (stored roster number (ask (seen_as number (account_at roster number))) ≡ changed roster number (ask (standing_of roster number)))
stepped_is ask k roster number outside =
    rw (seen_is roster number) (refusal_is (account_at roster number) (ask (standing_of roster number)), stored_is ask k roster number outside)

-- the account of a number took a step that does to each account what the record asks for
pub altered_is : (ask : Standing → Change) (k : ℕ) {step : Account → Stepped → Type 0} {number : ℕ} {roster new : Roster} {answer : ℕ}
    → Altered step number roster new answer → (is_number number ≡ false → ask Unknown ≡ refuses k)
    → ((account : Account) (taken : Stepped) → step account taken → taken ≡ stepped_by account (ask (seen_as number account)))
    → (answer ≡ number_of (ask (standing_of roster number))) × (new ≡ changed roster number (ask (standing_of roster number)))
altered_is ask k {number = number} {roster} a outside right =
    let account = account_at roster number in
    let e : a.taken ≡ stepped_by account (ask (standing_of roster number)) =
    right account a.taken a.took ∙ ap (λ (s : Standing). stepped_by account (ask s)) (seen_is roster number) in (
      a.answers ∙ ap (λ (s : Stepped). s.refusal) e ∙ refusal_is account (ask (standing_of roster number)),
      a.leaves ∙ ap (λ (s : Stepped). with_account roster number s.account) e ∙ stored_is ask k roster number outside,
    )
