-- Demand 1 for policies: for every byte string exactly one of "read" and "refused under a number from the list" holds, and each
-- number is given when 01's row says so and only then. The words are those of specs/Rows.antt.
use Prim.Native.Nat.{ℕ, ◌+◌, ◌*◌, ◌≤◌, ◌<◌}
use mathlib.Core.List.{List}
use mathlib.Core.Logic.{◌↔◌, ◌⊎◌, inl, inr}
use mathlib.Core.Path.{◌≡◌, refl, sym}
use native.Mathlib.Decide.{ℕ_discrete}
use native.Mathlib.Omega.{arith}
use lib.ListN.{length}
use Rattle.policy_file.proofs.Answered.{answered, answered_only}
use Rattle.policy_file.proofs.Passing.{place_within}
use Rattle.policy_file.proofs.Stopping.{row_number, said_start, scan_stops, stops_only, read_to_end}
use Rattle.policy_file.proofs.Verdict.{number_of, refusal_row}
use Rattle.policy_file.specs.Rows.{NoMark, CutShort, LateLabel, TooMany, BadName, NameCarried, NoSuchLabel, NotAbove, Unplaced, RefusedAt, row_2, row_3, row_4, row_5, row_6, row_7, row_8, row_9, start, NoneRefuses, stop_at, ReachedInPolicy, Answered, empty, at_record, at_end_lem, read}
use Rattle.policy_file.specs.Whole.{nothing_read, scan_from, stop_of, policy_records_read, refused_policy, policy_of, policy_refusal, label_count, pair_count, AcceptedPolicy}
use Rattle.policy_file.specs.declared.Policy.{Policy}

module _ (file : List ℕ) where
  -- Each file has one answer, and it is what the table says in words.
  pub one_answer : (p : Policy) → (policy_of file ≡ p) ↔ Answered file p
  one_answer p = (λ e. rw e at (answered file), answered_only file)

  -- "length 0"
  pub refusal_1 : (policy_refusal file ≡ 1) ↔ (length file ≡ 0)
  refusal_1 = (λ e. go (answered file) e, λ e. number_of file (empty e))
    where
      go : {s : Policy} → Answered file s → s.refusal ≡ 1 → length file ≡ 0
      go (empty e) n = e
      go (at_record before r) n = absurd (omega (arith, row_number r))
      go (at_end_lem before u) n = absurd (omega arith)
      go (read r) n = absurd (omega arith)

  -- "The first refused record refuses its whole file"
  pub refusal_at_record : (n : ℕ) → (2 ≤ n) × (n ≤ 9) → (policy_refusal file ≡ n) ↔ ReachedInPolicy file (λ f labels pairs. RefusedAt f labels pairs n)
  refusal_at_record n bounds =
      refusal_row file n (λ f labels pairs. RefusedAt f labels pairs n) bounds (λ labels pairs r. r) (λ labels pairs r. r)

  -- "a single byte left .., or a mark not belonging to this file"
  pub refusal_2 : (policy_refusal file ≡ 2) ↔ ReachedInPolicy file NoMark
  refusal_2 = refusal_row file 2 NoMark (omega arith) row (λ labels pairs r. row_2 r)
    where
      row : (labels pairs : ℕ) → RefusedAt file labels pairs 2 → NoMark file labels pairs
      row labels pairs (row_2 r) = r

  -- "record cut short"
  pub refusal_3 : (policy_refusal file ≡ 3) ↔ ReachedInPolicy file CutShort
  refusal_3 = refusal_row file 3 CutShort (omega arith) row (λ labels pairs r. row_3 r)
    where
      row : (labels pairs : ℕ) → RefusedAt file labels pairs 3 → CutShort file labels pairs
      row labels pairs (row_3 r) = r

  -- `LB`: "after an `OV`"
  pub refusal_4 : (policy_refusal file ≡ 4) ↔ ReachedInPolicy file LateLabel
  refusal_4 = refusal_row file 4 LateLabel (omega arith) row (λ labels pairs r. row_4 r)
    where
      row : (labels pairs : ℕ) → RefusedAt file labels pairs 4 → LateLabel file labels pairs
      row labels pairs (row_4 r) = r

  -- "a 65th label, 513th `OV`"
  pub refusal_5 : (policy_refusal file ≡ 5) ↔ ReachedInPolicy file TooMany
  refusal_5 = refusal_row file 5 TooMany (omega arith) row (λ labels pairs r. row_5 r)
    where
      row : (labels pairs : ℕ) → RefusedAt file labels pairs 5 → TooMany file labels pairs
      row labels pairs (row_5 r) = r

  -- `LB`: "name badly formed"
  pub refusal_6 : (policy_refusal file ≡ 6) ↔ ReachedInPolicy file BadName
  refusal_6 = refusal_row file 6 BadName (omega arith) row (λ labels pairs r. row_6 r)
    where
      row : (labels pairs : ℕ) → RefusedAt file labels pairs 6 → BadName file labels pairs
      row labels pairs (row_6 r) = r

  -- `LB`: "name carried by an earlier record"
  pub refusal_7 : (policy_refusal file ≡ 7) ↔ ReachedInPolicy file NameCarried
  refusal_7 = refusal_row file 7 NameCarried (omega arith) row (λ labels pairs r. row_7 r)
    where
      row : (labels pairs : ℕ) → RefusedAt file labels pairs 7 → NameCarried file labels pairs
      row labels pairs (row_7 r) = r

  -- `OV`: "a number not below the label count"
  pub refusal_8 : (policy_refusal file ≡ 8) ↔ ReachedInPolicy file NoSuchLabel
  refusal_8 = refusal_row file 8 NoSuchLabel (omega arith) row (λ labels pairs r. row_8 r)
    where
      row : (labels pairs : ℕ) → RefusedAt file labels pairs 8 → NoSuchLabel file labels pairs
      row labels pairs (row_8 r) = r

  -- `OV`: "upper number not less than lower"
  pub refusal_9 : (policy_refusal file ≡ 9) ↔ ReachedInPolicy file NotAbove
  refusal_9 = refusal_row file 9 NotAbove (omega arith) row (λ labels pairs r. row_9 r)
    where
      row : (labels pairs : ℕ) → RefusedAt file labels pairs 9 → NotAbove file labels pairs
      row labels pairs (row_9 r) = r

  -- "a label other than 0 is never the lower of a pair"
  pub refusal_10 : (policy_refusal file ≡ 10) ↔ ReachedInPolicy file Unplaced
  refusal_10 = (λ e. go (answered file) e, λ r. number_of file (at_end_lem r.passes r.row))
    where
      go : {s : Policy} → Answered file s → s.refusal ≡ 10 → ReachedInPolicy file Unplaced
      go (empty e) n = absurd (omega arith)
      go (at_record before r) n = absurd (omega (arith, row_number r))
      go (at_end_lem {labels} {pairs} before u) n = record { labels = labels; pairs = pairs; passes = before; row = u }
      go (read r) n = absurd (omega arith)

  -- "A policy that none of its own checks refuses is accepted", and its numbers are those of its records
  pub accepted_iff : AcceptedPolicy file ↔ NoneRefuses file (label_count file) (pair_count file)
  accepted_iff = (λ e. go (answered file) e, λ r. number_of file (read r))
    where
      go : {s : Policy} → Answered file s → s.refusal ≡ 0 → NoneRefuses file s.labels s.pairs
      go (empty e) n = absurd (omega arith)
      go (at_record before r) n = absurd (omega (arith, row_number r))
      go (at_end_lem before u) n = absurd (omega arith)
      go (read r) n = r

  pub accepted_numbers : (labels pairs : ℕ) → NoneRefuses file labels pairs → policy_of file ≡ stop_at file 0 labels pairs
  accepted_numbers labels pairs r = answered_only file (read r)

  pub accepted_length : AcceptedPolicy file → length file ≡ 12 * label_count file + 4 * pair_count file
  accepted_length e = let r = accepted_iff.0 e in omega (arith, place_within r.passes, r.ends)

  -- Every file is read or refused under a number from 1 to 10, never both.
  pub refusal_range : policy_refusal file ≤ 10
  refusal_range = go (answered file)
    where
      go : {s : Policy} → Answered file s → s.refusal ≤ 10
      go (empty e) = omega arith
      go (at_record before r) = omega (arith, row_number r)
      go (at_end_lem before u) = omega arith
      go (read r) = omega arith

  pub read_or_refused : AcceptedPolicy file ⊎ ((1 ≤ policy_refusal file) × (policy_refusal file ≤ 10))
  read_or_refused = go (ℕ_discrete (policy_refusal file) 0)
    where
      go : Dec (policy_refusal file ≡ 0) → AcceptedPolicy file ⊎ ((1 ≤ policy_refusal file) × (policy_refusal file ≤ 10))
      go (yes e) = inl e
      go (no d) = inr (omega arith, refusal_range)

  -- All records of an accepted file are read.
  pub accepted_read : AcceptedPolicy file → policy_records_read file ≡ label_count file + pair_count file
  accepted_read e = let r = accepted_iff.0 e in read_to_end file r.passes r.ends

  -- The 577 records that `stop_of` may read are enough: to allow more changes nothing.
  pub records_enough : (n : ℕ) → 577 ≤ n → scan_from n file nothing_read ≡ stop_of file
  records_enough n h = sym (stops_only file (rw (said_start file) (scan_stops file n 0 0 start (omega arith))))

  -- "With a refusal every number in the answer is 0"
  pub refused_zeros : 0 < policy_refusal file → policy_of file ≡ refused_policy (policy_refusal file)
  refused_zeros h = go (answered file) h
    where
      go : {s : Policy} → Answered file s → 0 < s.refusal → s ≡ refused_policy s.refusal
      go (empty e) h = refl
      go (at_record before r) h = refl
      go (at_end_lem before u) h = refl
      go (read r) h = absurd (omega arith)
