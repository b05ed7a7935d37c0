-- Where reading stops: `scan_from` stops at the first refused record or at the end, and only there; `policy_records_read` counts the records before.
use Prim.Native.Nat.{ℕ, zero, suc, ◌+◌, ◌-◌, ◌≤◌}
use mathlib.Core.List.{List}
use mathlib.Core.Path.{◌≡◌, refl, ap, ◌∙◌}
use native.Mathlib.Omega.{arith}
use lib.ListN.{length, replicate}
use Rattle.lists.proofs.Tables.{fill_more}
use Rattle.lists.specs.Tables.{listed, filled}
use Rattle.order.specs.declared.Pair.{Pair}
use Rattle.policy_file.proofs.Meaning.{Means, is_end, is_refused, is_label, is_over, meaning, kind_of}
use Rattle.policy_file.proofs.Passing.{labels_bound, pairs_bound, place_within}
use Rattle.policy_file.specs.File.{place_of, count_of, pair_at}
use Rattle.policy_file.specs.Rows.{bytes_left, RefusedAt, row_2, row_3, row_4, row_5, row_6, row_7, row_8, row_9, LabelAt, OverAt, PolicyPasses, start, label, over, stop_at, Stops, refused_there_lem, ended_there}
use Rattle.policy_file.specs.Whole.{no_pair, nothing_read, with_label, with_pair, on_policy_kind, scan_from, stop_of, policy_records_read}
use Rattle.policy_file.specs.declared.Kind.{Kind}
use Rattle.policy_file.specs.declared.Policy.{Policy}

-- the numbers of the rows that a record can be refused under
pub row_number : {file : List ℕ} {labels pairs n : ℕ} → RefusedAt file labels pairs n → (2 ≤ n) × (n ≤ 9)
row_number (row_2 r) = omega arith
row_number (row_3 r) = omega arith
row_number (row_4 r) = omega arith
row_number (row_5 r) = omega arith
row_number (row_6 r) = omega arith
row_number (row_7 r) = omega arith
row_number (row_8 r) = omega arith
row_number (row_9 r) = omega arith

-- What is read after so many labels and pairs that pass is what the file says there: at the start, with one label and with one pair more.
module _ (file : List ℕ) where
  pub said_start : nothing_read ≡ stop_at file 0 0 0
  unfolding listed
  said_start = refl

  pub said_label : (labels pairs : ℕ) → LabelAt file labels pairs
      → with_label (stop_at file 0 labels pairs) (count_of file labels) ≡ stop_at file 0 (labels + 1) pairs
  unfolding listed
  said_label labels pairs r =
      rw r.label.in_time
      (ap (λ (t : List ℕ). record { refusal = 0; zeros = replicate 7 0; labels = labels + 1; pairs = 0; counts = t; over = replicate 512 no_pair })
      (fill_more (count_of file) 64 0 labels r.label.fits))

  pub said_over : (labels pairs : ℕ) → OverAt file labels pairs
      → with_pair (stop_at file 0 labels pairs) (pair_at file labels pairs) ≡ stop_at file 0 labels (pairs + 1)
  said_over labels pairs r =
      ap (λ (t : List Pair). record { refusal = 0; zeros = replicate 7 0; labels = labels; pairs = pairs + 1; counts = filled 64 0 (count_of file) labels; over = t })
      (fill_more (pair_at file labels) 512 no_pair pairs r.over.fits)

module _ (file : List ℕ) where
  -- From the stop to words. The records are never more than the count that `scan_from` may read: with none left to read
  -- there would be more than 64 labels or 512 pairs.
  pub scan_stops : (n labels pairs : ℕ) → PolicyPasses file labels pairs → 577 ≤ n + (labels + pairs)
      → Stops file (scan_from n file (stop_at file 0 labels pairs))
  unfolding scan_from
  scan_stops zero labels pairs before h = absurd (omega (arith, labels_bound before, pairs_bound before))
  scan_stops (suc n) labels pairs before h =
      let r = meaning file labels pairs in
      rw (kind_of file labels pairs r.1) (go (scan_stops n) r.1)
    where
      go : ((l p : ℕ) → PolicyPasses file l p → 577 ≤ n + (l + p) → Stops file (scan_from n file (stop_at file 0 l p)))
          → {k : Kind} → Means file labels pairs k → Stops file (on_policy_kind (scan_from n file) (stop_at file 0 labels pairs) k)
      go rest (is_end e) = ended_there before e
      go rest (is_refused r) = refused_there_lem before r
      go rest (is_label r) = rw (said_label file labels pairs r) (rest (labels + 1) pairs (label before r) (omega arith))
      go rest (is_over r) = rw (said_over file labels pairs r) (rest labels (pairs + 1) (over before r) (omega arith))

  pub stops : Stops file (stop_of file)
  stops = rw (said_start file) (scan_stops 577 0 0 start (omega arith))

  -- From words to the stop.
  one_record : (n labels pairs : ℕ) {k : Kind} → Means file labels pairs k
      → scan_from (suc n) file (stop_at file 0 labels pairs) ≡ on_policy_kind (scan_from n file) (stop_at file 0 labels pairs) k
  unfolding scan_from
  one_record n labels pairs r = rw (kind_of file labels pairs r)

  -- a scan from the first record on comes to each record before which all pass
  scan_comes : {labels pairs : ℕ} → PolicyPasses file labels pairs → (n : ℕ) → n + (labels + pairs) ≡ 577
      → stop_of file ≡ scan_from n file (stop_at file 0 labels pairs)
  scan_comes start n e = let same : n ≡ 577 = omega arith in rw same (ap (scan_from 577 file) (said_start file))
  scan_comes (label {labels} {pairs} before r) n e =
      scan_comes before (suc n) (omega arith) ∙ one_record n labels pairs (is_label r) ∙ ap (scan_from n file) (said_label file labels pairs r)
  scan_comes (over {labels} {pairs} before r) n e =
      scan_comes before (suc n) (omega arith) ∙ one_record n labels pairs (is_over r) ∙ ap (scan_from n file) (said_over file labels pairs r)

  read_at : {labels pairs : ℕ} → PolicyPasses file labels pairs → {k : Kind} → Means file labels pairs k
      → stop_of file ≡ on_policy_kind (scan_from (576 - (labels + pairs)) file) (stop_at file 0 labels pairs) k
  read_at {labels} {pairs} before r =
      scan_comes before (suc (576 - (labels + pairs))) (omega (arith, labels_bound before, pairs_bound before))
      ∙ one_record (576 - (labels + pairs)) labels pairs r

  pub stops_only : {s : Policy} → Stops file s → stop_of file ≡ s
  stops_only (refused_there_lem before r) = read_at before (is_refused r)
  stops_only (ended_there before e) = read_at before (is_end e)

  -- at most 64 labels and 512 pairs are read, which lie within the file
  pub stop_bounds : ((stop_of file).labels ≤ 64) × ((stop_of file).pairs ≤ 512) × (place_of (stop_of file).labels (stop_of file).pairs ≤ length file)
  stop_bounds = go stops
    where
      go : {s : Policy} → Stops file s → (s.labels ≤ 64) × (s.pairs ≤ 512) × (place_of s.labels s.pairs ≤ length file)
      go (refused_there_lem before r) = (labels_bound before, pairs_bound before, place_within before)
      go (ended_there before e) = (labels_bound before, pairs_bound before, place_within before)

  -- A file that is refused at a record has had all records before it read; one that is not has had all its records read.
  pub read_before_refused : {labels pairs n : ℕ} → PolicyPasses file labels pairs → RefusedAt file labels pairs n → policy_records_read file ≡ labels + pairs
  unfolding policy_records_read
  read_before_refused before r = ap (λ (s : Policy). s.labels + s.pairs) (stops_only (refused_there_lem before r))

  pub read_to_end : {labels pairs : ℕ} → PolicyPasses file labels pairs → bytes_left file labels pairs ≡ 0 → policy_records_read file ≡ labels + pairs
  unfolding policy_records_read
  read_to_end before e = ap (λ (s : Policy). s.labels + s.pairs) (stops_only (ended_there before e))

  -- and of the empty file none
  pub read_nothing : length file ≡ 0 → policy_records_read file ≡ 0
  read_nothing e = read_to_end start (omega arith)
