-- What holds of records that pass: their number, and where each ends.
use Prim.Native.Nat.{ℕ, suc, ◌+◌, ◌≤◌, ◌<◌}
use mathlib.Core.Bool.{Bool, true, false}
use mathlib.Core.List.{List}
use mathlib.Core.Path.{◌≡◌}
use native.Mathlib.Decide.{ℕ_discrete}
use native.Mathlib.Numerals.{add-one}
use native.Mathlib.Omega.{arith}
use lib.ListN.{length}
use Rattle.format.proofs.Bytes.{same_refl}
use Rattle.format.specs.Marks.{KS}
use Rattle.envelope_file.proofs.Meaning.{under_not_held}
use Rattle.envelope_file.specs.File.{record_size, start_of, is_held}
use Rattle.envelope_file.specs.Rows.{WholeHeld, WholeUnder, Named, RecordAt, held, under, EnvelopePasses, start, next}

-- where the next record starts
pub next_start : (file : List ℕ) (k : ℕ) (t : Bool) → is_held file k ≡ t → start_of file (suc k) ≡ start_of file k + record_size t
unfolding start_of is_held
next_start file k t e = rw e

module _ {file : List ℕ} where
  -- a `KS` record holds its secret, a `KD` record does not
  pub held_true : {k : ℕ} → WholeHeld file k → is_held file k ≡ true
  unfolding is_held
  held_true w = rw w.mark (same_refl KS)

  pub under_false : {k : ℕ} → WholeUnder file k → is_held file k ≡ false
  unfolding is_held
  under_false w = rw w.mark under_not_held

  -- a record that passes ends within the file
  pub record_within : {k : ℕ} → RecordAt file k → start_of file (suc k) ≤ length file
  record_within {k} (held w n first) = omega (arith, w.whole, next_start file k true (held_true w))
  record_within {k} (under w n later falls) = omega (arith, w.whole, next_start file k false (under_false w))

  pub record_named_lem : {k : ℕ} → RecordAt file k → Named file k
  record_named_lem (held w n first) = n
  record_named_lem (under w n later falls) = n

  -- at most 64 records, all of them within the file
  pub records_bound : {k : ℕ} → EnvelopePasses file k → k ≤ 64
  records_bound start = omega arith
  records_bound (next before r) = omega (arith, (record_named_lem r).fits)

  pub start_within : {k : ℕ} → 12 ≤ length file → EnvelopePasses file k → start_of file k ≤ length file
  unfolding start_of
  start_within h start = h
  start_within h (next {k} before r) = rw add-one (record_within r)

  -- each of them has passed
  pub record_passed : {records : ℕ} → EnvelopePasses file records → (k : ℕ) → k < records → RecordAt file k
  record_passed start k l = absurd (omega arith)
  record_passed (next {k = last} before r) k l = go (ℕ_discrete k last) (λ h. record_passed before k h)
    where
      go : Dec (k ≡ last) → (k < last → RecordAt file k) → RecordAt file k
      go (yes e) rest = rw e r
      go (no n) rest = rest (omega arith)
