-- The answer by its number, for the theorems of Demand1.antt.
use Prim.Native.Nat.{ℕ, ◌≤◌}
use mathlib.Core.List.{List}
use mathlib.Core.Logic.{◌↔◌}
use mathlib.Core.Path.{◌≡◌, refl, ap}
use native.Mathlib.Omega.{arith}
use lib.ListN.{length}
use Rattle.policy_file.proofs.Answered.{answered, answered_only}
use Rattle.policy_file.proofs.Passing.{labels_bound, pairs_bound, place_within}
use Rattle.policy_file.specs.File.{place_of, count_of, pair_at}
use Rattle.policy_file.specs.Rows.{RefusedAt, ReachedInPolicy, Answered, empty, at_record, at_end_lem, read}
use Rattle.lists.specs.Tables.{listed, filled}
use Rattle.policy_file.specs.Whole.{no_pair, policy_refusal, label_count, pair_count, policy_of}
use Rattle.policy_file.specs.declared.Policy.{Policy}

module _ (file : List ℕ) where
  -- the words of an answer give its number
  pub number_of : {s : Policy} → Answered file s → policy_refusal file ≡ s.refusal
  number_of a = ap (λ (s : Policy). s.refusal) (answered_only file a)

  -- a row of the table, from its number and back
  module _ (n : ℕ) (Row : List ℕ → ℕ → ℕ → Type 0) (bounds : (2 ≤ n) × (n ≤ 9))
      (row_of : (labels pairs : ℕ) → RefusedAt file labels pairs n → Row file labels pairs)
      (of_row : (labels pairs : ℕ) → Row file labels pairs → RefusedAt file labels pairs n) where
    pub refusal_row : (policy_refusal file ≡ n) ↔ ReachedInPolicy file Row
    refusal_row = (λ e. go (answered file) e, λ r. number_of (at_record r.passes (of_row r.labels r.pairs r.row)))
      where
        go : {s : Policy} → Answered file s → s.refusal ≡ n → ReachedInPolicy file Row
        go (empty e) h = absurd (omega arith)
        go (at_record {labels} {pairs} before r) h =
            record { labels = labels; pairs = pairs; passes = before; row = row_of labels pairs (rw h at r) }
        go (at_end_lem before u) h = absurd (omega arith)
        go (read r) h = absurd (omega arith)

  -- the bounds of every answer: at most 64 labels and 512 pairs, which lie within the file
  pub bounds : (label_count file ≤ 64) × (pair_count file ≤ 512) × (place_of (label_count file) (pair_count file) ≤ length file)
  bounds = go (answered file)
    where
      go : {s : Policy} → Answered file s → (s.labels ≤ 64) × (s.pairs ≤ 512) × (place_of s.labels s.pairs ≤ length file)
      go (empty e) = omega arith
      go (at_record before r) = omega arith
      go (at_end_lem before u) = omega arith
      go (read r) = (labels_bound r.passes, pairs_bound r.passes, place_within r.passes)

  -- the tables of every answer: the file's counts and pairs in file order, with 0 after them
  pub counts_read : (policy_of file).counts ≡ filled 64 0 (count_of file) (label_count file)
  unfolding listed
  counts_read = go (answered file)
    where
      go : {s : Policy} → Answered file s → s.counts ≡ filled 64 0 (count_of file) s.labels
      go (empty e) = refl
      go (at_record before r) = refl
      go (at_end_lem before u) = refl
      go (read r) = refl

  pub pairs_read : (policy_of file).over ≡ filled 512 no_pair (pair_at file (label_count file)) (pair_count file)
  unfolding listed
  pairs_read = go (answered file)
    where
      go : {s : Policy} → Answered file s → s.over ≡ filled 512 no_pair (pair_at file s.labels) s.pairs
      go (empty e) = refl
      go (at_record before r) = refl
      go (at_end_lem before u) = refl
      go (read r) = refl
