-- The count of a roster file's records, turn by turn, and the answer from what the two readers answer.
use Prim.Native.Nat.{ℕ, suc, ◌+◌, ◌-◌, ◌≤◌, ◌<◌}
use mathlib.Core.List.{List}
use mathlib.Core.Logic.{◌≢◌}
use mathlib.Core.Path.{◌≡◌, sym, ap, ◌∙◌}
use native.Mathlib.Omega.{arith}
use borrow.Author.Tests.{eq-eqb}
use lib.ListN.{length}
use Rattle.policy_file.specs.Whole.{policy_refusal, label_count, policy_of}
use Rattle.policy_file.specs.declared.Policy.{Policy}
use Rattle.roster_answers.proofs.Records.{count_ends, refused_ends, one_more_lem, none_read}
use Rattle.roster_answers.specs.Records.{records_before, roster_records_read}
use Rattle.roster_entry.proofs.Sizes.{entry_within}
use Rattle.roster_file.specs.File.{entry_at, size_of}
use Rattle.roster_file.specs.Whole.{stop_of}
use Rattle.roster_file.specs.declared.Stop.{Stop}

module _ (policy : List ℕ) (labels : ℕ) (file : List ℕ) (end : ℕ) where
  abbrev all : ℕ
  all = records_before (length file) policy labels file end 0

  -- so many records are counted up to byte `at`, no more than there are bytes up to there; with those from `at` on they are all
  pub record Counted (records at : ℕ) : Type 0 where
    pub within : at ≤ length file
    pub few : records ≤ at
    pub sums : records + records_before (length file - records) policy labels file end at ≡ all

  pub none_counted : Counted 0 0
  none_counted =
      let whole : length file - 0 ≡ length file = omega arith in
      let sum = ap (λ (n : ℕ). records_before n policy labels file end 0) whole in
      record { within = omega arith; few = omega arith; sums = omega (arith, sum) }

  module _ (records at : ℕ) (h : Counted records at) where
    -- the count ends at `end`
    pub end_reached : end ≤ at → records ≡ all
    end_reached l = omega (arith, h.sums, count_ends policy labels file end (length file - records) at l)

    module _ {size : ℕ} (e : size ≡ size_of (entry_at policy labels file at)) where
      -- a record ends within the file
      pub size_within : at + size ≤ length file
      size_within = omega (arith, entry_within policy labels file at h.within, e)

      -- the count ends at a record of size 0
      pub refused_reached : at < end → size ≡ 0 → records ≡ all
      refused_reached l z = omega (arith, h.sums, refused_ends policy labels file end (length file - records) at l (sym e ∙ z))

      -- any other is counted
      pub counted_next : at < end → size ≢ 0 → Counted (records + 1) (at + size)
      counted_next l ne =
          let n = length file - (records + 1) in
          let left : length file - records ≡ suc n = omega (arith, h.few, size_within, ne) in
          let more = ap (λ (k : ℕ). records_before k policy labels file end at) left ∙ one_more_lem policy labels file end n at size l e ne in
          record { within = size_within; few = omega (arith, h.few, ne); sums = omega (arith, h.sums, more) }

module _ (policy roster : List ℕ) {read : Policy} (same : read ≡ policy_of policy) where
  number : read.refusal ≡ policy_refusal policy
  number = ap (λ (p : Policy). p.refusal) same

  labels : read.labels ≡ label_count policy
  labels = ap (λ (p : Policy). p.labels) same

  pub policy_refused : read.refusal ≢ 0 → 0 ≡ roster_records_read policy roster
  policy_refused ne = sym (none_read policy roster (λ z. ne (number ∙ z)))

  pub stop_counted : read.refusal ≡ 0 → {stop : Stop} → stop ≡ stop_of policy read.labels roster
      → {r : ℕ} → r ≡ records_before (length roster) policy read.labels roster stop.at 0 → r ≡ roster_records_read policy roster
  unfolding roster_records_read
  stop_counted none stops e = rw (eq-eqb (policy_refusal policy) 0 (sym number ∙ none), sym labels, sym stops) e
