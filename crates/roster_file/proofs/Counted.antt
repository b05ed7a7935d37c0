-- A label's count is the number of the accounts that are on it.
use Prim.Native.Nat.{ℕ, zero, suc, ◌≤◌}
use mathlib.Core.Bool.{Bool, true, false, false≢true}
use mathlib.Core.List.{[], ◌∷◌}
use mathlib.Core.Logic.{◌⊎◌, inl, inr}
use mathlib.Core.Path.{◌≡◌, refl, ap, ◌∙◌}
use native.Mathlib.Omega.{arith}
use borrow.Author.Tests.{eq-eqb, eqb-true}
use lib.ListN.{length, length-append}
use Rattle.roster_file.proofs.Rosters.{on_in}
use Rattle.roster_file.specs.Counts.{is_on, stands_on, count_in, StandsOn, AccountsOn, Placed}
use Rattle.roster_file.specs.Machine.{standing_of}
use Rattle.roster_file.specs.declared.Activity.TheVariants.{Active, Held}
use Rattle.roster_file.specs.declared.Activity.{Activity}
use Rattle.roster_file.specs.declared.Roster.{Roster}
use Rattle.roster_file.specs.declared.Standing.TheVariants.{Unknown, Withdrawn, On}
use Rattle.roster_file.specs.declared.Standing.{Standing}
use Rattle.trees.proofs.Lists.{answers}
use Rattle.trees.proofs.Select.{selected, select_has, select_once, select_yes, select_no, select_none}
use Rattle.trees.specs.Sums.{select}

-- a test that 0 does not pass selects at most n of the numbers up to n
short_but_first : (t : ℕ → Bool) (n : ℕ) → t 0 ≡ false → length (select t (suc n)) ≤ n
short_but_first t zero e = rw (select_none t 1 (λ i l. ap t (omega arith) ∙ e)) (omega arith)
short_but_first t (suc n) e = go (short_but_first t n e) (answers (t (suc n)))
  where
    go : length (select t (suc n)) ≤ n → (t (suc n) ≡ true) ⊎ (t (suc n) ≡ false) → length (select t (suc (suc n))) ≤ suc n
    go ih (inl y) = rw (select_yes t (suc n) y) (omega (arith, length-append (select t (suc n)) (suc n ∷ [])))
    go ih (inr y) = rw (select_no t (suc n) y) (omega arith)

-- "held accounts included"
pub on_counted_lem : (l : ℕ) (activity : Activity) → is_on l (On l activity) ≡ true
on_counted_lem l Held = eq-eqb l l refl
on_counted_lem l Active = eq-eqb l l refl

module _ (roster : Roster) (l number : ℕ) where
  -- the test says what the words say
  pub stands_true : StandsOn roster l number → stands_on roster l number ≡ true
  unfolding stands_on
  stands_true a = ap (is_on l) a.1 ∙ on_counted_lem l a.0

  pub stands_on_lem : stands_on roster l number ≡ true → StandsOn roster l number
  unfolding stands_on
  stands_on_lem e = go (standing_of roster number) refl e
    where
      go : (s : Standing) → standing_of roster number ≡ s → is_on l s ≡ true → StandsOn roster l number
      go Unknown q h = absurd (false≢true h)
      go Withdrawn q h = absurd (false≢true h)
      go (On m activity) q h = (activity, q ∙ ap (λ (k : ℕ). On k activity) (eqb-true m l h))

  pub stands_false : (StandsOn roster l number → ⊥) → stands_on roster l number ≡ false
  stands_false n = go (stands_on roster l number) refl
    where
      go : (t : Bool) → stands_on roster l number ≡ t → t ≡ false
      go true e = absurd (n (stands_on_lem e))
      go false e = refl

module _ (roster : Roster) (l : ℕ) where
  pub count_is : AccountsOn roster l (count_in roster l)
  unfolding count_in
  count_is = record {
    list = select (stands_on roster l) 4097;
    once = select_once (stands_on roster l) 4097;
    exactly = λ number. (
      λ m. stands_on_lem roster l number (selected (stands_on roster l) 4097 m).passes,
      λ a. let r = on_in roster number a.1 in select_has (stands_on roster l) 4097 (omega (arith, r.within)) (stands_true roster l number a),
    );
    long = refl;
  }

  -- there is no account 0, so there are 4,096 at most
  pub count_few : count_in roster l ≤ 4096
  unfolding count_in
  count_few = short_but_first (stands_on roster l) 4096 (stands_false roster l 0 (λ a. let r = on_in roster 0 a.1 in omega (arith, r.some)))

  -- past the policy's labels no label has accounts
  pub count_past : (labels : ℕ) → Placed labels roster → labels ≤ l → count_in roster l ≡ 0
  unfolding count_in
  count_past labels placed h =
      ap length (select_none (stands_on roster l) 4097
      (λ number k. stands_false roster l number (λ a. let b = placed number l a.0 a.1 in omega arith)))
