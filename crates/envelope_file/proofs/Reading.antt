-- Laws of the whole file: its header, then its records one by one.
use Prim.Native.Nat.{ℕ, suc, ◌+◌, ◌-◌, ◌≤◌, ◌<◌}
use mathlib.Core.Bool.{Bool, true, false, cond}
use mathlib.Core.List.{List}
use mathlib.Core.Path.{◌≡◌, refl, sym, ap, ◌∙◌}
use native.Mathlib.Decide.{dec_le}
use native.Mathlib.Omega.{arith}
use lib.ListN.{length, set, replicate}
use borrow.Author.Tests.{lt-ltb, le-ltb, eq-eqb, ne_eqb}
use Rattle.format.specs.Bytes.{bytes_at, same_bytes}
use Rattle.format.specs.Marks.{EN}
use Rattle.envelope_file.proofs.Meaning.{Means, is_refused, kind_iff}
use Rattle.envelope_file.proofs.Verdict.{row_number}
use Rattle.envelope_file.specs.File.{account_in, start_of}
use Rattle.envelope_file.specs.Record.{envelope_kind}
use Rattle.envelope_file.specs.Whole.{head_refusal, refused, nothing_read, with_record, on_envelope_kind, scan_from, settled, contents_of, on_count, count_from, envelope_records_read}
use Rattle.envelope_file.specs.declared.Contents.{Contents}
use Rattle.envelope_file.specs.declared.Kind.TheVariants.{Held, Under, End, Refused}
use Rattle.envelope_file.specs.declared.Kind.{Kind}

-- the header, by the tests that led there
module _ (file : List ℕ) where
  pub head_short : length file < 12 → head_refusal file ≡ 17
  unfolding head_refusal
  head_short h = rw (lt-ltb (length file) 12 h)

  module _ (long : 12 ≤ length file) where
    pub head_foreign : same_bytes (bytes_at file 0 2) EN ≡ false → head_refusal file ≡ 17
    unfolding head_refusal
    head_foreign e = rw (le-ltb (length file) 12 long, e)

    pub head_nobody : same_bytes (bytes_at file 0 2) EN ≡ true → account_in file ≡ 0 → head_refusal file ≡ 17
    unfolding head_refusal
    head_nobody e z = rw (le-ltb (length file) 12 long, e, eq-eqb (account_in file) 0 z)

    pub head_passed : same_bytes (bytes_at file 0 2) EN ≡ true → (account_in file ≡ 0 → ⊥) → head_refusal file ≡ 0
    unfolding head_refusal
    head_passed e z = rw (le-ltb (length file) 12 long, e, ne_eqb (account_in file) 0 z)

  -- after a header that is not refused the first record starts
  pub head_long : head_refusal file ≡ 0 → 12 ≤ length file
  head_long e = go (dec_le 12 (length file))
    where
      go : Dec (12 ≤ length file) → 12 ≤ length file
      go (yes long) = long
      go (no short) = absurd (omega (arith, sym (head_short (omega arith)) ∙ e))

  pub contents_refused : (head_refusal file ≡ 0 → ⊥) → contents_of file ≡ refused (head_refusal file)
  unfolding contents_of
  contents_refused e = rw (ne_eqb (head_refusal file) 0 e)

  pub contents_read : head_refusal file ≡ 0 → contents_of file ≡ scan_from 65 file nothing_read
  unfolding contents_of
  contents_read e = rw (eq-eqb (head_refusal file) 0 e)

  -- the count
  pub none_counted : (head_refusal file ≡ 0 → ⊥) → envelope_records_read file ≡ 0
  unfolding envelope_records_read
  none_counted e = rw (ne_eqb (head_refusal file) 0 e)

  pub all_counted : head_refusal file ≡ 0 → envelope_records_read file ≡ count_from 65 file 0
  unfolding envelope_records_read
  all_counted e = rw (eq-eqb (head_refusal file) 0 e)

-- what a reader gives, with a refusal and without
pub settled_refused : (read : Contents) → (read.refusal ≡ 0 → ⊥) → settled read ≡ refused read.refusal
settled_refused read some = rw (ne_eqb read.refusal 0 some)

pub settled_read : (read : Contents) → read.refusal ≡ 0 → settled read ≡ read
settled_read read none = ap (λ (b : Bool). cond b read (refused read.refusal)) (eq-eqb read.refusal 0 none)

-- one record more, after what is read so far
module _ (n : ℕ) (file : List ℕ) (read : Contents) where
  pub scan_kind : {kind : Kind} → envelope_kind file read.records ≡ kind → scan_from (suc n) file read ≡ on_envelope_kind (scan_from n file) file read kind
  unfolding scan_from
  scan_kind e = rw e

pub count_kind : (n : ℕ) (file : List ℕ) (k : ℕ) {kind : Kind} → envelope_kind file k ≡ kind
    → count_from (suc n) file k ≡ on_count (count_from n file) k kind
unfolding count_from
count_kind n file k e = rw e

-- what is read so far, as a reader keeps it
abbrev so_far : ℕ → List ℕ → List ℕ → Contents
so_far records starts places = record { refusal = 0; records = records; starts = starts; places = places }

-- what holds after so many records, kept in two tables: answer and count are those of the rest
pub record Reading (file starts places : List ℕ) (records : ℕ) : Type 0 where
  pub rest : scan_from 65 file nothing_read ≡ scan_from (65 - records) file (so_far records starts places)
  pub count : count_from 65 file 0 ≡ count_from (65 - records) file records

pub reading_start : (file : List ℕ) → Reading file (replicate 64 0) (replicate 64 0) 0
reading_start file = record { rest = refl; count = refl }

module _ (file starts places : List ℕ) (records : ℕ) (few : records ≤ 64) (r : Reading file starts places records) where
  more : 65 - records ≡ suc (65 - (records + 1))
  more = omega (arith, few)

  -- the answer by the kind of the next record
  answer : {kind : Kind} → envelope_kind file records ≡ kind
      → scan_from 65 file nothing_read ≡ on_envelope_kind (scan_from (65 - (records + 1)) file) file (so_far records starts places) kind
  answer e = r.rest ∙ rw more (scan_kind (65 - (records + 1)) file (so_far records starts places) e)

  count_up : {kind : Kind} → envelope_kind file records ≡ kind → count_from 65 file 0 ≡ on_count (count_from (65 - (records + 1)) file) records kind
  count_up e = r.count ∙ rw more (count_kind (65 - (records + 1)) file records e)

  -- a record more, kept with the place that it gives
  module _ (at : ℕ) (here : at ≡ start_of file records) where
    next : (place : ℕ) → scan_from 65 file nothing_read ≡ scan_from (65 - (records + 1)) file (with_record file (so_far records starts places) place)
        → count_from 65 file 0 ≡ count_from (65 - (records + 1)) file (records + 1)
        → Reading file (set starts records at) (set places records place) (records + 1)
    next place s n = record {
      rest = s ∙ ap (λ (x : ℕ). scan_from (65 - (records + 1)) file (so_far (records + 1) (set starts records x) (set places records place))) (sym here);
      count = n;
    }

    pub reading_held : envelope_kind file records ≡ Held → Reading file (set starts records at) (set places records records) (records + 1)
    reading_held e = next records (answer e) (count_up e)

    pub reading_under : {place : ℕ} → envelope_kind file records ≡ Under place
        → Reading file (set starts records at) (set places records place) (records + 1)
    reading_under {place} e = next place (answer e) (count_up e)

  -- the answer and the count, at the end and at a refused record
  pub reading_end : envelope_kind file records ≡ End → settled (so_far records starts places) ≡ scan_from 65 file nothing_read
  reading_end e = sym (answer e)

  pub reading_refused : (number : ℕ) → envelope_kind file records ≡ Refused number
      → settled (record { refusal = number; records = records; starts = starts; places = places }) ≡ scan_from 65 file nothing_read
  reading_refused number e = go ((kind_iff file records (Refused number)).0 e)
    where
      go : Means file records (Refused number)
          → settled (record { refusal = number; records = records; starts = starts; places = places }) ≡ scan_from 65 file nothing_read
      go (is_refused row) = rw (ne_eqb number 0 (λ z. omega (arith, (row_number row).0))) (sym (answer e))

  pub counted_end : envelope_kind file records ≡ End → records ≡ count_from 65 file 0
  counted_end e = sym (count_up e)

  pub counted_refused : (number : ℕ) → envelope_kind file records ≡ Refused number → records ≡ count_from 65 file 0
  counted_refused number e = sym (count_up e)
