-- What holds of records that pass: their numbers, names and pairs.
use Prim.Native.Nat.{ℕ, ◌≤◌, ◌<◌}
use mathlib.Core.List.{List}
use mathlib.Core.Path.{◌≡◌}
use native.Mathlib.Decide.{ℕ_discrete}
use native.Mathlib.Omega.{arith}
use lib.ListN.{length}
use Rattle.policy_file.specs.File.{place_of}
use Rattle.policy_file.specs.Rows.{LabelAt, OverAt, PolicyPasses, start, label, over}

module _ {file : List ℕ} where
  -- at most 64 labels and 512 pairs, all of them within the file
  pub labels_bound : {labels pairs : ℕ} → PolicyPasses file labels pairs → labels ≤ 64
  labels_bound start = omega arith
  labels_bound (label before r) = omega (arith, r.label.fits)
  labels_bound (over before r) = labels_bound before

  pub pairs_bound : {labels pairs : ℕ} → PolicyPasses file labels pairs → pairs ≤ 512
  pairs_bound start = omega arith
  pairs_bound (label before r) = pairs_bound before
  pairs_bound (over before r) = omega (arith, r.over.fits)

  pub place_within : {labels pairs : ℕ} → PolicyPasses file labels pairs → place_of labels pairs ≤ length file
  place_within start = omega arith
  place_within (label before r) = omega (arith, r.label.record_at_lem.whole)
  place_within (over before r) = omega (arith, r.over.record_at_lem.whole)

  -- each label has passed where no pair stood before it, each pair after all the labels
  pub label_passed : {labels pairs : ℕ} → PolicyPasses file labels pairs → (i : ℕ) → i < labels → LabelAt file i 0
  label_passed start i l = absurd (omega arith)
  label_passed (label {labels} {pairs} before r) i l = go (ℕ_discrete i labels) (λ h. label_passed before i h)
    where
      go : Dec (i ≡ labels) → (i < labels → LabelAt file i 0) → LabelAt file i 0
      go (yes e) rest = rw e (rw r.label.in_time at r)
      go (no n) rest = rest (omega arith)
  label_passed (over before r) i l = label_passed before i l

  pub over_passed : {labels pairs : ℕ} → PolicyPasses file labels pairs → (k : ℕ) → k < pairs → OverAt file labels k
  over_passed start k l = absurd (omega arith)
  over_passed (label before r) k l = absurd (omega (arith, r.label.in_time))
  over_passed (over {labels} {pairs} before r) k l = go (ℕ_discrete k pairs) (λ h. over_passed before k h)
    where
      go : Dec (k ≡ pairs) → (k < pairs → OverAt file labels k) → OverAt file labels k
      go (yes e) rest = rw e r
      go (no n) rest = rest (omega arith)
