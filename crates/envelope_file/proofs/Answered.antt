-- The whole file: the answer of `contents_of` is what the words of the table say, and only then.
use Prim.Native.Nat.{ℕ, zero, suc, ◌+◌, ◌-◌, ◌≤◌, ◌<◌}
use mathlib.Core.Bool.{true, false}
use mathlib.Core.List.{List}
use mathlib.Core.Logic.{◌⊎◌, inl, inr}
use mathlib.Core.Path.{◌≡◌, refl, sym, ap, ap₂, ◌∙◌}
use native.Mathlib.Decide.{dec_lt, ℕ_discrete}
use native.Mathlib.Omega.{arith}
use borrow.Author.Tests.{lt-ltb, le-ltb, eq-eqb, ne_eqb}
use lib.ListN.{length, set}
use Rattle.format.proofs.Bytes.{same_refl, same?, differ}
use Rattle.format.specs.Bytes.{bytes_at}
use Rattle.format.specs.Marks.{EN}
use Rattle.lists.proofs.Tables.{fill_more}
use Rattle.lists.specs.Tables.{listed, filled}
use Rattle.envelope_file.proofs.Meaning.{Means, is_end, is_refused, is_held_lem, is_under, meaning, kind_of}
use Rattle.envelope_file.proofs.Passing.{held_true, under_false, records_bound}
use Rattle.envelope_file.specs.File.{account_in, head_name, start_of, is_held, name_in, place_in}
use Rattle.envelope_file.specs.Rows.{NoHeader, under_12, other_mark, account_0, Header, WholeHeld, WholeUnder, Named, RecordAt, held, under, EnvelopePasses, start, next, Answered, at_start, at_record, read}
use Rattle.envelope_file.specs.Whole.{head_refusal, nothing_read, with_record, place_kept, accepted, on_envelope_kind, scan_from, contents_of}
use Rattle.envelope_file.specs.declared.Contents.{Contents}
use Rattle.envelope_file.specs.declared.Kind.{Kind}

-- the header
module _ (file : List ℕ) where
  pub no_header : NoHeader file → head_refusal file ≡ 17
  unfolding head_refusal
  no_header (under_12 l) = rw (lt-ltb (length file) 12 l)
  no_header (other_mark h d) = rw (le-ltb (length file) 12 h, differ (bytes_at file 0 2) EN d)
  no_header (account_0 h m z) = rw (le-ltb (length file) 12 h, m, same_refl EN, eq-eqb (account_in file) 0 z)

  pub header_passes : Header file → head_refusal file ≡ 0
  unfolding head_refusal
  header_passes h =
      rw (le-ltb (length file) 12 h.whole, h.mark, same_refl EN, ne_eqb (account_in file) 0 (λ e. omega (arith, h.account)))

  header? : NoHeader file ⊎ Header file
  header? = go (dec_lt (length file) 12) (same? (bytes_at file 0 2) EN) (ℕ_discrete (account_in file) 0)
    where
      go : Dec (length file < 12) → Dec (bytes_at file 0 2 ≡ EN) → Dec (account_in file ≡ 0) → NoHeader file ⊎ Header file
      go (yes l) m a = inl (under_12 l)
      go (no h) (no d) a = inl (other_mark (omega arith) d)
      go (no h) (yes m) (yes z) = inl (account_0 (omega arith) m z)
      go (no h) (yes m) (no d) = inr record { whole = omega arith; mark = m; account = omega arith }

  pub started : Header file → contents_of file ≡ scan_from 65 file nothing_read
  unfolding contents_of
  started h = rw (header_passes h)

-- What is read of records that pass: nothing before the first, and each one more as it was read.
pub none_kept : (file : List ℕ) → nothing_read ≡ accepted file 0
unfolding accepted listed
none_kept file = refl

pub one_kept : (file : List ℕ) (k place : ℕ) → k < 64 → place_kept file k ≡ place → with_record file (accepted file k) place ≡ accepted file (k + 1)
unfolding accepted
one_kept file k place l e =
    let starts : List ℕ = filled 64 0 (start_of file) k in
    let places : List ℕ = filled 64 0 (place_kept file) k in
    ap₂ (λ (s p : List ℕ). record { refusal = 0; records = k + 1; starts = s; places = p }) (fill_more (start_of file) 64 0 k l)
    (ap (set places k) (sym e) ∙ fill_more (place_kept file) 64 0 k l)

pub held_kept : (file : List ℕ) (k : ℕ) → is_held file k ≡ true → place_kept file k ≡ k
unfolding place_kept
held_kept file k e = rw e

pub under_kept : (file : List ℕ) (k : ℕ) → is_held file k ≡ false → place_kept file k ≡ place_in file k
unfolding place_kept
under_kept file k e = rw e

-- a record that is read as so and so leads to what is read with it
module _ (file : List ℕ) where
  step : (n k : ℕ) {kind : Kind} → Means file k kind
      → scan_from (suc n) file (accepted file k) ≡ on_envelope_kind (scan_from n file) file (accepted file k) kind
  unfolding accepted scan_from
  step n k r = rw (kind_of file k r)

  held_step : (n k : ℕ) → WholeHeld file k → Named file k → (k ≡ 0 → name_in file k ≡ head_name file)
      → scan_from (suc n) file (accepted file k) ≡ scan_from n file (accepted file (k + 1))
  unfolding accepted
  held_step n k w named first =
      step n k (is_held_lem w named first) ∙ ap (scan_from n file) (one_kept file k k named.fits (held_kept file k (held_true w)))

  under_step : (n k : ℕ) → WholeUnder file k → Named file k → 0 < k → place_in file k < k
      → scan_from (suc n) file (accepted file k) ≡ scan_from n file (accepted file (k + 1))
  under_step n k w named later falls =
      step n k (is_under w named later falls)
      ∙ ap (scan_from n file) (one_kept file k (place_in file k) named.fits (under_kept file k (under_false w)))

-- From the answer to words. The records are never more than the count that `scan_from` may read: with none left to read there would be
-- more than 64.
module _ (file : List ℕ) (header : Header file) where
  pub scan_answered : (n k : ℕ) → EnvelopePasses file k → 65 ≤ n + k → Answered file (scan_from n file (accepted file k))
  unfolding scan_from
  scan_answered zero k before h = absurd (omega (arith, records_bound before))
  scan_answered (suc n) k before h = go (meaning file k).1 (scan_answered n (k + 1))
    where
      go : {kind : Kind} → Means file k kind → (EnvelopePasses file (k + 1) → 65 ≤ n + (k + 1) → Answered file (scan_from n file (accepted file (k + 1))))
          → Answered file (scan_from (suc n) file (accepted file k))
      go (is_end e some) rest =
          rw (step file n k (is_end e some)) (read record { header = header; passes = before; some = some; ends = e })
      go (is_refused r) rest = rw (step file n k (is_refused r)) (at_record header before r)
      go (is_held_lem w named first) rest =
          rw (held_step file n k w named first) (rest (next before (held w named first)) (omega arith))
      go (is_under w named later falls) rest =
          rw (under_step file n k w named later falls) (rest (next before (under w named later falls)) (omega arith))

-- From words to the answer.
module _ (file : List ℕ) where
  -- a record that passes is kept
  passed : (n k : ℕ) → RecordAt file k → scan_from (suc n) file (accepted file k) ≡ scan_from n file (accepted file (k + 1))
  passed n k (held w named first) = held_step file n k w named first
  passed n k (under w named later falls) = under_step file n k w named later falls

  -- a scan from the first record on comes to each record before which all pass
  scan_comes : {k : ℕ} → EnvelopePasses file k → (n : ℕ) → n + k ≡ 65 → scan_from 65 file nothing_read ≡ scan_from n file (accepted file k)
  scan_comes start n e =
      let same : n ≡ 65 = omega arith in
      ap₂ (λ (f : ℕ) (c : Contents). scan_from f file c) (sym same) (none_kept file)
  scan_comes (next {k} before r) n e = scan_comes before (suc n) (omega arith) ∙ passed n k r

  read_at : {k : ℕ} → Header file → EnvelopePasses file k → {kind : Kind} → Means file k kind
      → contents_of file ≡ on_envelope_kind (scan_from (64 - k) file) file (accepted file k) kind
  read_at {k} h before r =
      started file h ∙ scan_comes before (suc (64 - k)) (omega (arith, records_bound before)) ∙ step file (64 - k) k r

  pub answered_only : {c : Contents} → Answered file c → contents_of file ≡ c
  unfolding contents_of
  answered_only (at_start h) = rw (no_header file h)
  answered_only (at_record header before r) = read_at header before (is_refused r)
  answered_only (read r) = read_at r.header r.passes (is_end r.ends r.some)

  pub answered : Answered file (contents_of file)
  answered = go (header? file)
    where
      go : NoHeader file ⊎ Header file → Answered file (contents_of file)
      go (inl h) = rw (answered_only (at_start h)) (at_start h)
      go (inr h) = rw (started file h, none_kept file) (scan_answered file h 65 0 start (omega arith))
