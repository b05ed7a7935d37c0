-- The whole envelope: its header, then its records from the first on.
use Rattle.std.specs.Prelude.{ℕ, zero, suc, ◌+◌, cond, List, ◌≡◌, eqb, ltb, length, set, replicate}
use Rattle.format.specs.Bytes.{bytes_at, same_bytes}
use Rattle.format.specs.Marks.{EN}
use Rattle.lists.specs.Tables.{filled}
use Rattle.envelope_file.specs.File.{account_in, start_of, is_held, place_in}
use Rattle.envelope_file.specs.Record.{envelope_kind}
use Rattle.envelope_file.specs.declared.Contents.{Contents}
use Rattle.envelope_file.specs.declared.Kind.TheVariants.{Held, Under, End, Refused}
use Rattle.envelope_file.specs.declared.Kind.{Kind}

-- 17, "under 12 bytes, mark not `EN`, or account 0"
unfoldable pub head_refusal : List ℕ → ℕ
head_refusal file =
    cond (ltb (length file) 12) 17
    (cond (same_bytes (bytes_at file 0 2) EN)
    (cond (eqb (account_in file) 0) 17 0)
    17)

abbrev pub refused : ℕ → Contents
refused number = record { refusal = number; records = 0; starts = replicate 64 0; places = replicate 64 0 }

-- what is read before the first record; and with one record more, which gives a place
abbrev pub nothing_read : Contents
nothing_read = record { refusal = 0; records = 0; starts = replicate 64 0; places = replicate 64 0 }

abbrev pub with_record : List ℕ → Contents → ℕ → Contents
with_record file read place = record {
  refusal = 0;
  records = read.records + 1;
  starts = set read.starts read.records (start_of file read.records);
  places = set read.places read.records place;
}

-- "a definition gives this paper's number and values for each of the enum's cases": after what is read so far, a record is kept with the place
-- that it gives and the rest read; one that holds its secret is kept with its own place, as no other can be. The end is the file's, and
-- "The first refused record refuses its whole file".
abbrev pub on_envelope_kind : (Contents → Contents) → List ℕ → Contents → Kind → Contents
on_envelope_kind rest file read Held = rest (with_record file read read.records)
on_envelope_kind rest file read (Under place) = rest (with_record file read place)
on_envelope_kind rest file read End = read
on_envelope_kind rest file read (Refused number) = refused number

-- the answer after what is read so far, for up to n records more
unfoldable pub scan_from : ℕ → List ℕ → Contents → Contents
scan_from zero file read = refused 5
scan_from (suc n) file read = on_envelope_kind (scan_from n file) file read (envelope_kind file read.records)

-- the place that is kept of a record, from the file itself: its own if it holds its secret, else the one that stands in it
unfoldable pub place_kept : List ℕ → ℕ → ℕ
place_kept file k = cond (is_held file k) k (place_in file k)

-- what an envelope of so many records is read as, without a scan
unfoldable pub accepted : List ℕ → ℕ → Contents
accepted file records = record {
  refusal = 0;
  records = records;
  starts = filled 64 0 (start_of file) records;
  places = filled 64 0 (place_kept file) records;
}

-- the answer that a reader's result stands for: with a refusal the records read before it are left out
abbrev pub settled : Contents → Contents
settled read = cond (eqb read.refusal 0) read (refused read.refusal)

-- what an envelope has; 64 records and one more are always enough
unfoldable pub contents_of : List ℕ → Contents
contents_of file = cond (eqb (head_refusal file) 0) (scan_from 65 file nothing_read) (refused (head_refusal file))

-- its verdict, 0 when it is read, and its number of records
abbrev pub envelope_refusal : List ℕ → ℕ
envelope_refusal file = (contents_of file).refusal

abbrev pub records_of : List ℕ → ℕ
records_of file = (contents_of file).records

abbrev pub AcceptedEnvelope : List ℕ → Type 0
AcceptedEnvelope file = envelope_refusal file ≡ 0

-- what each case of a record read means for the count of records: a record is one more, the end and a refused record none
abbrev pub on_count : (ℕ → ℕ) → ℕ → Kind → ℕ
on_count rest k Held = rest (k + 1)
on_count rest k (Under place) = rest (k + 1)
on_count rest k End = k
on_count rest k (Refused number) = k

-- the count from record k on, for up to n records
unfoldable pub count_from : ℕ → List ℕ → ℕ → ℕ
count_from zero file k = k
count_from (suc n) file k = on_count (count_from n file) k (envelope_kind file k)

-- where reading stops, for every file: all records when the envelope is read to its end, those before the first refused record, and 0 when the
-- header is refused
unfoldable pub envelope_records_read : List ℕ → ℕ
envelope_records_read file = cond (eqb (head_refusal file) 0) (count_from 65 file 0) 0
