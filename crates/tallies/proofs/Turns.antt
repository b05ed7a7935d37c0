-- One more account is counted: what stands in the table of counts then.
use Rattle.std.specs.Prelude.{Some, ◌≢◌}
use Prim.Native.Nat.{ℕ, suc, ◌+◌, ◌≤◌, ◌<◌}
use mathlib.Core.Bool.{Bool, true, false, cond}
use mathlib.Core.List.{[], ◌∷◌}
use mathlib.Core.Path.{◌≡◌, refl, sym, ap, ◌∙◌}
use native.Mathlib.Numerals.{add-one}
use native.Mathlib.Omega.{arith}
use borrow.Author.Tests.{eq-eqb, ne_eqb}
use lib.Dec.{eqb}
use lib.ListN.{length, get_or, set, replicate, length-append}
use Rattle.lists.proofs.Listed.{listed_same, listed_set}
use Rattle.lists.proofs.Tables.{get_d_listed}
use Rattle.lists.specs.Tables.{listed}
use Rattle.roster_file.proofs.Places.{standing_at}
use Rattle.roster_file.specs.Counts.{is_on, stands_on, count_in}
use Rattle.roster_file.specs.Machine.{is_number, standing_so, standing_of}
use Rattle.roster_file.specs.declared.Roster.{Roster}
use Rattle.roster_file.specs.declared.Standing.TheVariants.{Unknown, Withdrawn, On}
use Rattle.roster_file.specs.declared.Standing.{Standing}
use Rattle.trees.proofs.Select.{select_short}
use Rattle.trees.specs.Sums.{select}
use Rattle.tallies.specs.Tally.{place_in, count_to}

-- whether an account is on a label, by the label that it is on, if any
on_some : (s : Standing) (l m : ℕ) → place_in s ≡ Some m → is_on l s ≡ eqb m l
on_some Unknown l m e = cc
on_some Withdrawn l m e = cc
on_some (On k activity) l m e = let same : k ≡ m = cc in rw same

not_on : (s : Standing) (l : ℕ) → ((m : ℕ) → place_in s ≡ Some m → m ≢ l) → is_on l s ≡ false
not_on Unknown l h = refl
not_on Withdrawn l h = refl
not_on (On k activity) l h = ne_eqb k l (h k refl)

module _ (roster : Roster) where
  -- one more number
  count_more : (n l : ℕ) → count_to roster (suc n) l ≡ count_to roster n l + cond (stands_on roster l n) 1 0
  unfolding count_to select
  count_more n l = length-append (select (stands_on roster l) n) (cond (stands_on roster l n) (n ∷ []) []) ∙ ap (λ (k : ℕ). length (select (stands_on roster l) n) + k) (go (stands_on roster l n))
    where
      go : (b : Bool) → length (cond b (n ∷ []) []) ≡ cond b 1 0
      go true = refl
      go false = refl

  pub count_short : (n l : ℕ) → count_to roster n l ≤ n
  unfolding count_to
  count_short n l = select_short (stands_on roster l) n

  -- number 0 has no account
  pub none_counted : replicate 64 0 ≡ listed (count_to roster 1) 64
  unfolding listed count_to select stands_on standing_of is_number
  none_counted = refl

  module _ (i : ℕ) (h : i < 4096) where
    abbrev pub stands : Standing
    stands = (get_or roster.accounts i (standing_so Unknown)).standing

    count_next : (l : ℕ) → count_to roster (i + 1 + 1) l ≡ count_to roster (i + 1) l + cond (is_on l stands) 1 0
    unfolding stands_on
    count_next l =
        ap (λ (k : ℕ). count_to roster k l) (add-one (i + 1)) ∙ count_more (i + 1) l
        ∙ ap (λ (s : Standing). count_to roster (i + 1) l + cond (is_on l s) 1 0) (standing_at roster i h)

    -- an account on one of the 64 labels, and one on none of them
    pub counted_there : {l : ℕ} → place_in stands ≡ Some l → l < 64
        → set (listed (count_to roster (i + 1)) 64) l (get_or (listed (count_to roster (i + 1)) 64) l 0 + 1) ≡ listed (count_to roster (i + 1 + 1)) 64
    counted_there {l} here few =
        listed_set (count_to roster (i + 1)) (count_to roster (i + 1 + 1)) 64 l (get_or (listed (count_to roster (i + 1)) 64) l 0 + 1) few
        (count_next l ∙ rw (on_some stands l l here, eq-eqb l l refl, get_d_listed (count_to roster (i + 1)) 64 l 0 few))
        (λ k hk other. count_next k ∙ rw (on_some stands k l here, ne_eqb l k (λ e. other (sym e))) (omega arith))

    pub counted_nowhere : ((l : ℕ) → place_in stands ≡ Some l → 64 ≤ l) → listed (count_to roster (i + 1)) 64 ≡ listed (count_to roster (i + 1 + 1)) 64
    counted_nowhere none =
        listed_same (count_to roster (i + 1)) (count_to roster (i + 1 + 1)) 64
        (λ k hk. sym (count_next k ∙ rw (not_on stands k (λ l here e. omega (arith, none l here))) (omega arith)))

  pub all_counted : listed (count_to roster 4097) 64 ≡ listed (count_in roster) 64
  unfolding count_to count_in
  all_counted = refl
