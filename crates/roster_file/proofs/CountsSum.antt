-- "Where a roster is given its counts .. sum to joins less withdrawals", after a file that is read to its end.
use Prim.Native.Nat.{ℕ, zero, suc, ◌+◌, ◌-◌, ◌<◌}
use mathlib.Core.Bool.{cond, not}
use mathlib.Core.List.{List}
use mathlib.Core.Path.{◌≡◌, refl, sym, ap, ◌∙◌}
use native.Mathlib.Omega.{arith}
use borrow.Author.Tests.{le-leb, lt-leb, eq-eqb, ne_eqb, eqb-false, not-true}
use lib.Dec.{eqb}
use lib.ListN.{length}
use Rattle.roster_file.proofs.Demand1.{accepted_iff}
use Rattle.roster_file.proofs.Entries.{entry_join, entry_move, entry_hold, entry_release, entry_withdrawal}
use Rattle.roster_file.proofs.Passing.{record_in, record_room, passes_placed, records_of, records_few}
use Rattle.roster_file.proofs.Meaning.{record_size_lem}
use Rattle.roster_file.proofs.Rosters.{standing_empty}
use Rattle.roster_file.specs.Counts.{is_on, stands_on, count_in, Placed, is_join, is_withdrawal, sum_from, joins_in, withdrawals_in}
use Rattle.roster_file.specs.File.{number_in, entry_at}
use Rattle.roster_file.specs.Machine.{empty_roster, standing_of}
use Rattle.roster_file.specs.Rows.{RecordAt, joins, moves, holds, releases, withdraws, Alters, RosterPasses, start, next}
use Rattle.roster_file.specs.Whole.{stop_of}
use Rattle.roster_file.specs.declared.Activity.{Activity}
use Rattle.roster_file.specs.declared.Entry.{Entry}
use Rattle.roster_file.specs.declared.Roster.{Roster}
use Rattle.roster_file.specs.declared.Standing.TheVariants.{Unknown, Withdrawn, On}
use Rattle.roster_file.specs.declared.Standing.{Standing}
use Rattle.trees.proofs.Select.{select_length}
use Rattle.trees.proofs.Sums.{sum_cong, sum_zero, sum_swap, sum_apart, sum_where_sum, sum_where_where}
use Rattle.trees.specs.Sums.{sum, sum_where}

-- ---- sums

-- a sum in which one term is changed
sum_changed : (f g : ℕ → ℕ) (k n : ℕ) → k < n → ((i : ℕ) → (i ≡ k → ⊥) → g i ≡ f i) → sum g n + f k ≡ sum f n + g k
sum_changed f g k n l h =
    let others : sum_where (λ i. not (eqb i k)) g n ≡ sum_where (λ i. not (eqb i k)) f n =
    sum_where_where (λ i. not (eqb i k)) g f n (λ i b e. h i (eqb-false i k (not-true (eqb i k) e))) in
    omega (arith, sum_apart f k n l, sum_apart g k n l)

-- a sum in which one term is 1 and every other 0
sum_one : (f : ℕ → ℕ) (k n : ℕ) → k < n → f k ≡ 1 → ((i : ℕ) → (i ≡ k → ⊥) → f i ≡ 0) → sum f n ≡ 1
sum_one f k n l one h = let e = sum_changed (λ i. 0) f k n l h in omega (arith, sum_zero (λ i. 0) n (λ i b. refl))

-- ---- the accounts that are on a label

-- 1 for an account on a label, 0 for any other
abbrev pub live : Standing → ℕ
live Unknown = 0
live Withdrawn = 0
live (On l activity) = 1

pub live_of : Roster → (number : ℕ) → ℕ
live_of roster number = live (standing_of roster number)

-- an account that is on one of the labels is on one of them alone
live_once : (labels : ℕ) (s : Standing) → ((l : ℕ) (activity : Activity) → s ≡ On l activity → l < labels)
    → sum (λ l. cond (is_on l s) 1 0) labels ≡ live s
live_once labels Unknown h = sum_zero (λ l. 0) labels (λ l b. refl)
live_once labels Withdrawn h = sum_zero (λ l. 0) labels (λ l b. refl)
live_once labels (On m activity) h =
    sum_one (λ l. cond (eqb m l) 1 0) m labels (h m activity refl) (rw (eq-eqb m m refl)) (λ l ne. rw (ne_eqb m l (λ e. ne (sym e))))

-- the counts of all labels sum to the accounts on labels
pub counts_live : (labels : ℕ) (roster : Roster) → Placed labels roster → sum (count_in roster) labels ≡ sum (live_of roster) 4097
unfolding count_in stands_on live_of
counts_live labels roster placed =
    sum_cong (count_in roster) (λ l. sum (λ number. cond (stands_on roster l number) 1 0) 4097) labels
    (λ l b. select_length (stands_on roster l) 4097 ∙ sum_where_sum (stands_on roster l) (λ i. 1) 4097)
    ∙ sum_swap (λ l number. cond (stands_on roster l number) 1 0) labels 4097
    ∙ sum_cong (λ number. sum (λ l. cond (stands_on roster l number) 1 0) labels) (live_of roster) 4097
    (λ number b. live_once labels (standing_of roster number) (placed number))

-- ---- record by record

-- a record changes the accounts on labels by its own
altered_live : (roster : Roster) (number : ℕ) (s : Standing) (after : Roster) → number < 4097 → Alters roster number s after
    → sum (live_of after) 4097 + live_of roster number ≡ sum (live_of roster) 4097 + live s
unfolding live_of
altered_live roster number s after l h =
    sum_changed (live_of roster) (live_of after) number 4097 l (λ other ne. ap live (h.others other ne)) ∙ ap (λ (k : ℕ). sum (live_of roster) 4097 + k) (ap live h.itself)

module _ (policy : List ℕ) (labels : ℕ) (file : List ℕ) where
  -- a join adds one, a withdrawal takes one away, and any other record leaves them as many
  record_live : {at : ℕ} {roster : Roster} {size : ℕ} {s : Standing} → RecordAt policy labels file at roster size s
      → live s + is_withdrawal (entry_at policy labels file at) ≡ live_of roster (number_in file at) + is_join (entry_at policy labels file at)
  unfolding live_of
  record_live {at} (joins w r e a) = rw (entry_join policy labels file at w, e)
  record_live {at} (moves w e a) = rw (entry_move policy labels file at w, e)
  record_live {at} (holds w e) = rw (entry_hold policy labels file at w, e)
  record_live {at} (releases w e) = rw (entry_release policy labels file at w, e)
  record_live {at} (withdraws w e) = rw (entry_withdrawal policy labels file at w, e)

  -- one step of a sum over the file's records
  sum_step : (one : Entry → ℕ) (n : ℕ) {at : ℕ} {roster : Roster} {size : ℕ} {s : Standing} → RecordAt policy labels file at roster size s
      → sum_from one (suc n) policy labels file at ≡ one (entry_at policy labels file at) + sum_from one n policy labels file (at + size)
  unfolding sum_from
  sum_step one n {at} {roster} r =
      rw (lt-leb (length file) at (omega (arith, record_room r)))
      (ap (λ (k : ℕ). one (entry_at policy labels file at) + sum_from one n policy labels file (at + k)) (record_size_lem policy labels file at roster r).0)

  sum_end : (one : Entry → ℕ) (n : ℕ) → sum_from one n policy labels file (length file) ≡ 0
  unfolding sum_from
  sum_end one zero = refl
  sum_end one (suc n) = rw (le-leb (length file) (length file) (omega arith))

  -- after records that pass: the accounts on labels are the joins so far less the withdrawals so far
  so_far : {at : ℕ} {roster : Roster} (p : RosterPasses policy labels file at roster) (n : ℕ) → n + records_of p ≡ length file
      → sum (live_of roster) 4097 + withdrawals_in policy labels file + sum_from is_join n policy labels file at
      ≡ joins_in policy labels file + sum_from is_withdrawal n policy labels file at
  unfolding joins_in withdrawals_in live_of
  so_far start n e =
      let all : n ≡ length file = omega arith in
      let none = sum_zero (live_of empty_roster) 4097 (λ number b. ap live (standing_empty number)) in
      omega (arith, none, ap (λ (k : ℕ). sum_from is_join k policy labels file 0) all, ap (λ (k : ℕ). sum_from is_withdrawal k policy labels file 0) all)
  so_far (next {at} {size} {roster} {after} {s} before r h) n e =
      let number = record_in r in
      omega (
        arith,
        so_far before (suc n) (omega arith),
        sum_step is_join n r,
        sum_step is_withdrawal n r,
        altered_live roster (number_in file at) s after (omega (arith, number.within)) h,
        record_live r,
      )

  pub counts_sum : (stop_of policy labels file).refusal ≡ 0
      → sum (count_in (stop_of policy labels file).roster) labels + withdrawals_in policy labels file ≡ joins_in policy labels file
  counts_sum e =
      let p = (accepted_iff policy labels file).0 e in
      let left = length file - records_of p in
      omega (
        arith,
        so_far p left (omega (arith, records_few p)),
        sum_end is_join left,
        sum_end is_withdrawal left,
        counts_live labels (stop_of policy labels file).roster (passes_placed p),
      )
