-- An envelope's answers follow from its first 2,742 bytes: header and records of an accepted envelope take at most 2,700 bytes, and every
-- record is judged by its first 42.
use Prim.Native.Nat.{ℕ, zero, suc, ◌+◌, ◌*◌, ◌≤◌, ◌<◌}
use mathlib.Core.Bool.{Bool, true, false, cond}
use mathlib.Core.List.{List, ◌++◌}
use mathlib.Core.Logic.{◌≢◌}
use mathlib.Core.Path.{◌≡◌, refl, sym, ap, ap₂, ◌∙◌}
use native.Mathlib.Omega.{arith}
use borrow.Author.Tests.{le-ltb, ne_eqb}
use lib.Dec.{eqb}
use lib.ListN.{length, take, length-append, get_or-append}
use Rattle.format.proofs.Bytes.{front_bytes, fronted}
use Rattle.format.proofs.Search.{first_same}
use Rattle.format.specs.Bytes.{same_bytes}
use Rattle.format.specs.Marks.{KD}
use Rattle.envelope_file.proofs.Asked.{asked_refused}
use Rattle.envelope_file.proofs.Lawful.{records_few, whole_length}
use Rattle.envelope_file.proofs.Meaning.{Means, is_end, is_refused, is_held_lem, is_under, meaning, kind_of}
use Rattle.envelope_file.proofs.Passing.{next_start}
use Rattle.envelope_file.specs.Derive.{refused_derived, derived_of}
use Rattle.envelope_file.specs.File.{head_name, start_of, is_held, name_in, place_in, carries, record_named}
use Rattle.envelope_file.specs.Labels.{refused_labels, envelope_labels}
use Rattle.envelope_file.specs.Record.{name_refusal, held_kind, under_kind, marked_kind, envelope_kind}
use Rattle.envelope_file.specs.Rows.{bytes_left, mark_of}
use Rattle.envelope_file.specs.Whole.{head_refusal, refused, nothing_read, with_record, on_envelope_kind, scan_from, contents_of, envelope_refusal, records_of, on_count, count_from, envelope_records_read}
use Rattle.envelope_file.specs.declared.Contents.{Contents}
use Rattle.envelope_file.specs.declared.Kind.TheVariants.{Refused}
use Rattle.envelope_file.specs.declared.Kind.{Kind}

-- no record has more than 42 bytes
start_bound : (file : List ℕ) (k : ℕ) → start_of file k ≤ 12 + 42 * k
unfolding start_of
start_bound file zero = omega arith
start_bound file (suc k) = go (is_held file k) refl (start_bound file k)
  where
    go : (held : Bool) → is_held file k ≡ held → start_of file k ≤ 12 + 42 * k → start_of file (suc k) ≤ 12 + 42 * suc k
    go true e h = omega (arith, next_start file k true e)
    go false e h = omega (arith, next_start file k false e)

-- so long an envelope is refused, and has no key and no labels
module _ (file : List ℕ) (long : 2742 ≤ length file) where
  long_refused : envelope_refusal file ≢ 0
  long_refused ok = omega (arith, whole_length file ok, records_few file ok, start_bound file (records_of file))

  long_derived : (name : List ℕ) → derived_of file name ≡ refused_derived (envelope_refusal file)
  long_derived name = let d = long_refused in asked_refused file name (omega arith)

  long_labels : envelope_labels file ≡ refused_labels (envelope_refusal file)
  unfolding envelope_labels
  long_labels = rw (ne_eqb (envelope_refusal file) 0 long_refused)

-- a record with at least 42 bytes from its start on
long_kind : (file : List ℕ) (k : ℕ) → 42 ≤ bytes_left file k
    → envelope_kind file k ≡ cond (is_held file k) (held_kind file k) (cond (same_bytes (mark_of file k) KD) (under_kind file k) (Refused 2))
unfolding envelope_kind marked_kind
long_kind file k h =
    rw (
      ne_eqb (bytes_left file k) 0 (λ e. omega arith),
      ne_eqb (bytes_left file k) 1 (λ e. omega arith),
      le-ltb (bytes_left file k) 42 h,
      le-ltb (bytes_left file k) 11 (omega arith),
    )

module _ (front back : List ℕ) (long : 2742 ≤ length front) where
  room : (k : ℕ) → k ≤ 64 → start_of front k + 42 ≤ length front
  room k h = omega (arith, start_bound front k)

  longer : 2742 ≤ length (front ++ back)
  longer = simp length-append (omega arith)

  start_same : (k : ℕ) → k ≤ 64 → start_of (front ++ back) k ≡ start_of front k
  unfolding start_of
  start_same zero h = refl
  start_same (suc k) h = rw (start_same k (omega arith), front_bytes front back (start_of front k) 2 (omega (arith, room k (omega arith))))

  -- what record k says
  module _ (k : ℕ) (h : k ≤ 64) where
    mark_same : mark_of (front ++ back) k ≡ mark_of front k
    mark_same = rw (start_same k h) (front_bytes front back (start_of front k) 2 (omega (arith, room k h)))

    held_same : is_held (front ++ back) k ≡ is_held front k
    unfolding is_held
    held_same = rw mark_same

    name_same : name_in (front ++ back) k ≡ name_in front k
    unfolding name_in
    name_same = rw (start_same k h) (front_bytes front back (start_of front k + 2) 8 (omega (arith, room k h)))

    place_same : place_in (front ++ back) k ≡ place_in front k
    unfolding place_in
    place_same = rw (start_same k h) (get_or-append front back 0 (start_of front k + 10) (omega (arith, room k h)))

  head_name_same : head_name (front ++ back) ≡ head_name front
  unfolding head_name
  head_name_same = front_bytes front back 4 8 (omega arith)

  named_same : (records : ℕ) (name : List ℕ) → records ≤ 64 → record_named (front ++ back) records name ≡ record_named front records name
  unfolding record_named carries
  named_same records name h =
      first_same (carries (front ++ back) name) (carries front name) records 0
      (λ k l. ap (λ (n : List ℕ). same_bytes n name) (name_same k (omega arith)))

  module _ (k : ℕ) (h : k ≤ 64) where
    number_same : name_refusal (front ++ back) k ≡ name_refusal front k
    unfolding name_refusal
    number_same = rw (name_same k h, named_same k (name_in front k) h)

    kind_same : envelope_kind (front ++ back) k ≡ envelope_kind front k
    unfolding held_kind under_kind
    kind_same =
        long_kind (front ++ back) k (simp length-append (omega (arith, room k h, start_same k h)))
        ∙ rw (mark_same k h, held_same k h, number_same, name_same k h, head_name_same, place_same k h)
        (sym (long_kind front k (omega (arith, room k h))))

  with_same : (read : Contents) (place : ℕ) → read.records ≤ 64 → with_record (front ++ back) read place ≡ with_record front read place
  with_same read place h = rw (start_same read.records h)

  scan_same : (n : ℕ) (read : Contents) → read.records ≤ 64 → scan_from n (front ++ back) read ≡ scan_from n front read
  unfolding scan_from
  scan_same zero read h = refl
  scan_same (suc n) read h =
      let m = meaning front read.records in
      rw (kind_same read.records h, kind_of front read.records m.1) (go (scan_same n) m.1)
    where
      kept : (place : ℕ) → ((c : Contents) → c.records ≤ 64 → scan_from n (front ++ back) c ≡ scan_from n front c) → read.records < 64
          → scan_from n (front ++ back) (with_record (front ++ back) read place) ≡ scan_from n front (with_record front read place)
      kept place rest l = ap (scan_from n (front ++ back)) (with_same read place h) ∙ rest (with_record front read place) (omega arith)

      go : ((c : Contents) → c.records ≤ 64 → scan_from n (front ++ back) c ≡ scan_from n front c) → {kind : Kind} → Means front read.records kind
          → on_envelope_kind (scan_from n (front ++ back)) (front ++ back) read kind ≡ on_envelope_kind (scan_from n front) front read kind
      go rest (is_end e some) = refl
      go rest (is_refused r) = refl
      go rest (is_held_lem w named first) = kept read.records rest named.fits
      go rest (is_under w named later falls) = kept (place_in front read.records) rest named.fits

  count_same : (n k : ℕ) → k ≤ 64 → count_from n (front ++ back) k ≡ count_from n front k
  unfolding count_from
  count_same zero k h = refl
  count_same (suc n) k h =
      let m = meaning front k in
      rw (kind_same k h, kind_of front k m.1) (go (count_same n) m.1)
    where
      go : ((i : ℕ) → i ≤ 64 → count_from n (front ++ back) i ≡ count_from n front i) → {kind : Kind} → Means front k kind
          → on_count (count_from n (front ++ back)) k kind ≡ on_count (count_from n front) k kind
      go rest (is_end e some) = refl
      go rest (is_refused r) = refl
      go rest (is_held_lem w named first) = rest (k + 1) (omega (arith, named.fits))
      go rest (is_under w named later falls) = rest (k + 1) (omega (arith, named.fits))

  head_same : head_refusal (front ++ back) ≡ head_refusal front
  unfolding head_refusal
  head_same =
      rw (
        le-ltb (length (front ++ back)) 12 (simp length-append (omega arith)),
        le-ltb (length front) 12 (omega arith),
        front_bytes front back 0 2 (omega arith),
        get_or-append front back 0 2 (omega arith),
        get_or-append front back 0 3 (omega arith),
      )

  contents_same : contents_of (front ++ back) ≡ contents_of front
  unfolding contents_of
  contents_same =
      ap₂ (λ (n : ℕ) (c : Contents). cond (eqb n 0) c (refused n)) head_same (scan_same 65 nothing_read (omega arith))

  records_same : envelope_records_read (front ++ back) ≡ envelope_records_read front
  unfolding envelope_records_read
  records_same = ap₂ (λ (n c : ℕ). cond (eqb n 0) c 0) head_same (count_same 65 0 (omega arith))

  derived_same : (name : List ℕ) → derived_of (front ++ back) name ≡ derived_of front name
  derived_same name =
      long_derived (front ++ back) longer name ∙ ap (λ (c : Contents). refused_derived c.refusal) contents_same
      ∙ sym (long_derived front long name)

  labels_same : envelope_labels (front ++ back) ≡ envelope_labels front
  labels_same =
      long_labels (front ++ back) longer ∙ ap (λ (c : Contents). refused_labels c.refusal) contents_same ∙ sym (long_labels front long)

-- any front part of at least 2,742 bytes
module _ (n : ℕ) (enough : 2742 ≤ n) (file : List ℕ) where
  pub contents_front : contents_of file ≡ contents_of (take n file)
  contents_front = fronted 2742 contents_of contents_same n enough file

  pub records_front : envelope_records_read file ≡ envelope_records_read (take n file)
  records_front = fronted 2742 envelope_records_read records_same n enough file

  pub derived_front : (name : List ℕ) → derived_of file name ≡ derived_of (take n file) name
  derived_front name = fronted 2742 (λ f. derived_of f name) (λ front back long. derived_same front back long name) n enough file

  pub labels_front : envelope_labels file ≡ envelope_labels (take n file)
  labels_front = fronted 2742 envelope_labels labels_same n enough file
