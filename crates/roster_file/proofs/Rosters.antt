-- Laws of a roster: how its accounts stand, and how they stand once one of them is altered.
use Prim.Native.Nat.{ℕ, suc, ◌-◌, ◌≤◌, ◌<◌}
use mathlib.Core.Bool.{true, false}
use mathlib.Core.List.{List}
use mathlib.Core.Logic.{◌⊎◌, inl, inr, ◌≢◌}
use mathlib.Core.Path.{◌≡◌, refl, sym, ap, ◌∙◌}
use native.Mathlib.Decide.{dec_le, ℕ_discrete}
use native.Mathlib.Omega.{arith}
use borrow.Author.Tests.{le-leb, lt-leb}
use lib.ListN.{length, get_or, length-set, length-replicate, get_or-replicate}
use lib.Seq.{ext_get_or, get_or-set_same, get_or-set_other}
use Rattle.roster_file.specs.Machine.{is_number, standing_so, empty_roster, standing_of, with_standing}
use Rattle.roster_file.specs.Rows.{InRange, OutOfRange, is_zero, above, Alters}
use Rattle.roster_file.specs.declared.Account.{Account}
use Rattle.roster_file.specs.declared.Activity.{Activity}
use Rattle.roster_file.specs.declared.Roster.{Roster}
use Rattle.roster_file.specs.declared.Standing.TheVariants.{Unknown, Withdrawn, On}
use Rattle.roster_file.specs.declared.Standing.{Standing}

-- ---- the numbers of accounts

-- "Numbers are 2 bytes, 1 to 4,096."
pub number_ends : (is_number 0 ≡ false) × (is_number 1 ≡ true) × (is_number 4096 ≡ true) × (is_number 4097 ≡ false)
unfolding is_number
number_ends = (refl, refl, refl, refl)

pub range? : (number : ℕ) → InRange number ⊎ OutOfRange number
range? number = go (dec_le 1 number) (dec_le number 4096)
  where
    go : Dec (1 ≤ number) → Dec (number ≤ 4096) → InRange number ⊎ OutOfRange number
    go (yes l) (yes h) = inl record { some = l; within = h }
    go (yes l) (no h) = inr (above (omega arith))
    go (no l) h = inr (is_zero (omega arith))

pub number_in_lem : (number : ℕ) → InRange number → is_number number ≡ true
unfolding is_number
number_in_lem number r = rw (le-leb 1 number r.some, le-leb number 4096 r.within)

pub number_out : (number : ℕ) → OutOfRange number → is_number number ≡ false
unfolding is_number
number_out number (is_zero e) = rw e
number_out number (above h) = rw (le-leb 1 number (omega arith), lt-leb number 4096 h)

-- ---- how an account stands

pub withdrawn_known : ◌≡◌ {A = Standing} Withdrawn Unknown → ⊥
withdrawn_known q = let z : ◌≡◌ {A = ℕ} 0 1 = cc in omega arith

pub on_known : {l : ℕ} {activity : Activity} → ◌≡◌ {A = Standing} (On l activity) Unknown → ⊥
on_known q = let z : ◌≡◌ {A = ℕ} 0 1 = cc in omega arith

pub on_withdrawn : {l : ℕ} {activity : Activity} → ◌≡◌ {A = Standing} (On l activity) Withdrawn → ⊥
on_withdrawn q = let z : ◌≡◌ {A = ℕ} 0 1 = cc in omega arith

pub on_label : {l m : ℕ} {a b : Activity} → ◌≡◌ {A = Standing} (On l a) (On m b) → l ≡ m
on_label q = cc

-- the account at place i, whose number is i + 1
abbrev pub entry_of : Roster → (i : ℕ) → Account
entry_of roster i = get_or roster.accounts i (standing_so Unknown)

pub standing_in : (roster : Roster) (number : ℕ) → InRange number → standing_of roster number ≡ (entry_of roster (number - 1)).standing
unfolding standing_of
standing_in roster number r = rw (number_in_lem number r)

pub standing_out : (roster : Roster) (number : ℕ) → OutOfRange number → standing_of roster number ≡ Unknown
unfolding standing_of
standing_out roster number r = rw (number_out number r)

-- an account that is not unknown has a number in range
pub known_in : (roster : Roster) (number : ℕ) → standing_of roster number ≢ Unknown → InRange number
known_in roster number ne = go (range? number)
  where
    go : InRange number ⊎ OutOfRange number → InRange number
    go (inl r) = r
    go (inr r) = absurd (ne (standing_out roster number r))

pub on_in : (roster : Roster) (number : ℕ) {l : ℕ} {activity : Activity} → standing_of roster number ≡ On l activity → InRange number
on_in roster number e = known_in roster number (λ q. on_known (sym e ∙ q))

pub standing_empty : (number : ℕ) → standing_of empty_roster number ≡ Unknown
standing_empty number = go (range? number)
  where
    go : InRange number ⊎ OutOfRange number → standing_of empty_roster number ≡ Unknown
    go (inl r) =
        standing_in empty_roster number r
        ∙ ap (λ (a : Account). a.standing) (get_or-replicate 4096 (number - 1) (standing_so Unknown) (standing_so Unknown) (omega (arith, r.some, r.within)))
    go (inr r) = standing_out empty_roster number r

pub empty_entries : length empty_roster.accounts ≡ 4096
empty_entries = length-replicate 4096 (standing_so Unknown)

-- ---- one account altered

module _ (roster : Roster) (number : ℕ) (s : Standing) where
  pub with_entries : length (with_standing roster number s).accounts ≡ length roster.accounts
  unfolding with_standing
  with_entries = length-set roster.accounts (number - 1) (standing_so s)

  pub with_itself : length roster.accounts ≡ 4096 → InRange number → standing_of (with_standing roster number s) number ≡ s
  unfolding with_standing
  with_itself e r =
      standing_in (with_standing roster number s) number r
      ∙ ap (λ (a : Account). a.standing)
      (get_or-set_same roster.accounts (number - 1) (standing_so s) (standing_so Unknown) (omega (arith, e, r.some, r.within)))

  pub with_others : InRange number → (other : ℕ) → other ≢ number → standing_of (with_standing roster number s) other ≡ standing_of roster other
  unfolding with_standing
  with_others r other ne = go (range? other)
    where
      go : InRange other ⊎ OutOfRange other → standing_of (with_standing roster number s) other ≡ standing_of roster other
      go (inl o) =
          standing_in (with_standing roster number s) other o
          ∙ ap (λ (a : Account). a.standing)
          (get_or-set_other roster.accounts (number - 1) (other - 1) (standing_so s) (standing_so Unknown)
          (λ q. ne (omega (arith, q, r.some, o.some))))
          ∙ sym (standing_in roster other o)
      go (inr o) = standing_out (with_standing roster number s) other o ∙ sym (standing_out roster other o)

  pub with_alters : length roster.accounts ≡ 4096 → InRange number → Alters roster number s (with_standing roster number s)
  with_alters e r = record { itself = with_itself e r; others = with_others r; entries = with_entries ∙ e }

-- rosters of 4,096 entries in which all accounts stand alike are the same
pub roster_same : (a b : Roster) → length a.accounts ≡ 4096 → length b.accounts ≡ 4096
    → ((number : ℕ) → standing_of a number ≡ standing_of b number) → a ≡ b
roster_same a b ea eb h =
    ap (λ (l : List Account). record { accounts = l })
    (ext_get_or (standing_so Unknown) a.accounts b.accounts (ea ∙ sym eb) (λ i l. ap (λ (s : Standing). standing_so s) (at i (omega arith))))
  where
    at : (i : ℕ) → i < 4096 → (entry_of a i).standing ≡ (entry_of b i).standing
    at i l =
        let r : InRange (suc i) = record { some = omega arith; within = omega arith } in
        let e : suc i - 1 ≡ i = omega arith in
        rw e at (sym (standing_in a (suc i) r) ∙ h (suc i) ∙ standing_in b (suc i) r)

-- so an account is altered in one way only
pub alters_only : (roster : Roster) (number : ℕ) (s : Standing) (after : Roster) → length roster.accounts ≡ 4096 → InRange number
    → Alters roster number s after → after ≡ with_standing roster number s
alters_only roster number s after e r h =
    roster_same after (with_standing roster number s) h.entries (with_entries roster number s ∙ e) (λ other. go other (ℕ_discrete other number))
  where
    go : (other : ℕ) → Dec (other ≡ number) → standing_of after other ≡ standing_of (with_standing roster number s) other
    go other (yes q) = rw q (h.itself ∙ sym (with_itself roster number s e r))
    go other (no ne) = h.others other ne ∙ sym (with_others roster number s r other ne)
