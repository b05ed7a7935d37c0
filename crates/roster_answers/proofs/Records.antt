-- The count of a roster file's records: turn by turn, and for records that pass.
use Prim.Native.Nat.{ℕ, zero, suc, ◌+◌, ◌-◌, ◌≤◌, ◌<◌}
use mathlib.Core.List.{List}
use mathlib.Core.Logic.{◌≢◌}
use mathlib.Core.Path.{◌≡◌, refl, sym, ap, ◌∙◌}
use native.Mathlib.Decide.{ℕ_discrete}
use native.Mathlib.Omega.{arith}
use borrow.Author.Tests.{eq-eqb, ne_eqb, le-leb, lt-leb}
use lib.ListN.{length}
use Rattle.policy_file.specs.Whole.{policy_refusal, label_count, AcceptedPolicy}
use Rattle.roster_file.proofs.Meaning.{record_size_lem}
use Rattle.roster_file.proofs.Passing.{record_room, place_within, records_of, records_few}
use Rattle.roster_file.proofs.Stopping.{stops}
use Rattle.roster_file.specs.File.{entry_at, size_of}
use Rattle.roster_file.specs.Rows.{RecordAt, RosterPasses, start, next, Stops, refused_there_lem, ended_there}
use Rattle.roster_file.specs.declared.Roster.{Roster}
use Rattle.roster_file.specs.declared.Standing.{Standing}
use Rattle.roster_file.specs.declared.Stop.{Stop}
use Rattle.roster_answers.specs.Records.{records_before, roster_records_read}
use Rattle.roster_answers.specs.Rostered.{roster_stop}

module _ (policy : List ℕ) (labels : ℕ) (file : List ℕ) (end : ℕ) where
  -- no record is counted from `end` on
  pub count_ends : (n at : ℕ) → end ≤ at → records_before n policy labels file end at ≡ 0
  unfolding records_before
  count_ends zero at l = refl
  count_ends (suc n) at l = rw (le-leb end at l)

  -- a record that is refused as it is read ends the count
  pub refused_ends : (n at : ℕ) → at < end → size_of (entry_at policy labels file at) ≡ 0 → records_before n policy labels file end at ≡ 0
  unfolding records_before
  refused_ends zero at l z = refl
  refused_ends (suc n) at l z = rw (lt-leb end at l, eq-eqb (size_of (entry_at policy labels file at)) 0 z)

  -- any other counts
  pub one_more_lem : (n at size : ℕ) → at < end → size ≡ size_of (entry_at policy labels file at) → size ≢ 0
      → records_before (suc n) policy labels file end at ≡ suc (records_before n policy labels file end (at + size))
  unfolding records_before
  one_more_lem n at size l e ne = rw (lt-leb end at l, sym e, ne_eqb size 0 ne)

  -- As many records as there are bytes up to `end` are enough: to allow more changes nothing.
  pub count_enough : (n m at : ℕ) → end ≤ at + n → n ≤ m → records_before m policy labels file end at ≡ records_before n policy labels file end at
  count_enough zero m at h l = count_ends m at (omega arith) ∙ sym (count_ends zero at (omega arith))
  count_enough (suc n) zero at h l = absurd (omega arith)
  count_enough (suc n) (suc m) at h l =
      let size = size_of (entry_at policy labels file at) in go (count_enough n m) size refl (ℕ_discrete (end - at) 0) (ℕ_discrete size 0)
    where
      go : ((a : ℕ) → end ≤ a + n → n ≤ m → records_before m policy labels file end a ≡ records_before n policy labels file end a)
          → (size : ℕ) → size ≡ size_of (entry_at policy labels file at) → Dec (end - at ≡ 0) → Dec (size ≡ 0)
          → records_before (suc m) policy labels file end at ≡ records_before (suc n) policy labels file end at
      go rest size e (yes z) d = count_ends (suc m) at (omega arith) ∙ sym (count_ends (suc n) at (omega arith))
      go rest size e (no ne) (yes z) = refused_ends (suc m) at (omega arith) (sym e ∙ z) ∙ sym (refused_ends (suc n) at (omega arith) (sym e ∙ z))
      go rest size e (no ne) (no some) =
          one_more_lem m at size (omega arith) e some ∙ ap suc (rest (at + size) (omega arith) (omega arith)) ∙ sym (one_more_lem n at size (omega arith) e some)

module _ (policy : List ℕ) (labels : ℕ) (file : List ℕ) where
  one_passed : {at size : ℕ} {roster : Roster} {s : Standing} → RecordAt policy labels file at roster size s → (n end : ℕ) → at + size ≤ end
      → records_before (suc n) policy labels file end at ≡ suc (records_before n policy labels file end (at + size))
  one_passed {at} {size} {roster} r n end l =
      one_more_lem policy labels file end n at size (omega (arith, (record_room r).0)) (sym (record_size_lem policy labels file at roster r).0)
      (λ z. omega (arith, (record_room r).0, z))

  -- counting comes to each record before which all pass
  count_comes : {at : ℕ} {roster : Roster} (p : RosterPasses policy labels file at roster) (n m end : ℕ) → n + records_of p ≡ m → at ≤ end
      → records_before m policy labels file end 0 ≡ records_of p + records_before n policy labels file end at
  count_comes start n m end e l =
      let same : m ≡ n = omega arith in omega (arith, ap (λ (k : ℕ). records_before k policy labels file end 0) same)
  count_comes (next before r h) n m end e l =
      omega (arith, count_comes before (suc n) m end (omega arith) (omega (arith, (record_room r).0)), one_passed r n end l)

  -- The records before a byte, where all of them pass, are as many as the steps that lead there.
  pub passing_counted : {at : ℕ} {roster : Roster} (p : RosterPasses policy labels file at roster)
      → records_before (length file) policy labels file at 0 ≡ records_of p
  passing_counted {at} p =
      let n = length file - records_of p in
      omega (arith, count_comes p n (length file) at (omega (arith, records_few p, place_within p)) (omega arith), count_ends policy labels file at n at (omega arith))

-- What `records_read` answers for a policy that is not refused: how many records pass, from the first on, up to the place where reading stops.
pub records_passed : (policy roster : List ℕ) → AcceptedPolicy policy → let stop = roster_stop policy roster in
    (p : RosterPasses policy (label_count policy) roster stop.at stop.roster) × (roster_records_read policy roster ≡ records_of p)
unfolding roster_records_read
records_passed policy roster ok =
    let p = passes (stops policy (label_count policy) roster) in (p, rw (eq-eqb (policy_refusal policy) 0 ok) (passing_counted policy (label_count policy) roster p))
  where
    passes : {s : Stop} → Stops policy (label_count policy) roster s → RosterPasses policy (label_count policy) roster s.at s.roster
    passes (refused_there_lem before r) = before
    passes (ended_there before e) = before

pub none_read : (policy roster : List ℕ) → policy_refusal policy ≢ 0 → roster_records_read policy roster ≡ 0
unfolding roster_records_read
none_read policy roster ne = rw (ne_eqb (policy_refusal policy) 0 ne)
