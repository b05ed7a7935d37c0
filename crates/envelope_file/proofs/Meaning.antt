-- One record: what `envelope_kind` answers is what the rows of the table say in words.
use Rattle.std.specs.Prelude.{None, Option, Some}
use Prim.Native.Nat.{ℕ, ◌≤◌, ◌<◌}
use mathlib.Core.Bool.{Bool, true, false, cond, not}
use mathlib.Core.List.{List}
use mathlib.Core.Logic.{◌↔◌, ◌⊎◌, inl, inr, ◌≢◌}
use mathlib.Core.Path.{◌≡◌, refl, sym, ap, ◌∙◌}
use native.Mathlib.Decide.{dec_le, dec_lt, ℕ_discrete}
use native.Mathlib.Omega.{arith}
use borrow.Author.Tests.{lt-ltb, le-ltb, le-leb, lt-leb, eq-eqb, ne_eqb}
use lib.Dec.{leb}
use Rattle.format.proofs.Bytes.{same_refl, same_true, same?, differ}
use Rattle.format.proofs.Form.{well_formed_iff, form?, malformed_false}
use Rattle.format.proofs.Named.{NamedAt, named_at, named_none, named_found, named_new}
use Rattle.format.specs.Bytes.{same_bytes}
use Rattle.format.specs.Form.{NameForm}
use Rattle.format.specs.Marks.{KS, KD}
use Rattle.format.specs.Names.{well_formed}
use Rattle.envelope_file.specs.File.{head_name, is_held, name_in, place_in, carries, record_named}
use Rattle.envelope_file.specs.Record.{carried_refusal, name_refusal, held_kind, under_kind, marked_kind, envelope_kind}
use Rattle.envelope_file.specs.Rows.{bytes_left, mark_of, WholeHeld, WholeUnder, WholeRecord, NoMark, single_byte, other_mark, CutShort, short_held, short_under, Named, NoHolder, none_there, not_held, other_name, RefusedAt, row_2, row_3, row_5, row_6, row_7, row_18, row_19, RecordAt, held, under}
use Rattle.envelope_file.specs.declared.Kind.TheVariants.{Held, Under, End, Refused}
use Rattle.envelope_file.specs.declared.Kind.{Kind}

-- what a record read is, in words
pub data Means (file : List ℕ) (k : ℕ) : Kind → Type 0 where
  is_end : bytes_left file k ≡ 0 → 0 < k → Means file k End
  is_refused : {n : ℕ} → RefusedAt file k n → Means file k (Refused n)
  is_held_lem : WholeHeld file k → Named file k → (k ≡ 0 → name_in file k ≡ head_name file) → Means file k Held
  is_under : WholeUnder file k → Named file k → 0 < k → place_in file k < k → Means file k (Under (place_in file k))

-- the two marks differ
pub under_not_held : same_bytes KD KS ≡ false
unfolding same_bytes
under_not_held = refl

-- what a search for a name among the first n records says
module _ (file name : List ℕ) (n : ℕ) where
  pub name_at : (k : ℕ) → record_named file n name ≡ Some k → NamedAt (name_in file) name n k
  unfolding record_named carries
  name_at = named_at (carries file name) (name_in file) name (λ i. refl) n

  pub name_none : record_named file n name ≡ None → (i : ℕ) → i < n → name_in file i ≢ name
  unfolding record_named carries
  name_none = named_none (carries file name) (name_in file) name (λ i. refl) n

  name_found_lem : (i : ℕ) → i < n → name_in file i ≡ name → (k : ℕ) × (record_named file n name ≡ Some k)
  unfolding record_named carries
  name_found_lem = named_found (carries file name) (name_in file) name (λ i. refl) n

  pub name_new : ((i : ℕ) → i < n → name_in file i ≢ name) → record_named file n name ≡ None
  unfolding record_named carries
  name_new = named_new (carries file name) (name_in file) name (λ i. refl) n

-- From words to the answer: the tests come out as the words say.
module _ (file : List ℕ) (k : ℕ) where
  -- the tests of the name
  many_names : 64 ≤ k → name_refusal file k ≡ 5
  unfolding name_refusal
  many_names h = rw (le-leb 64 k h)

  name_tests : k < 64 → (t : Bool) → well_formed (name_in file k) ≡ t → (f : Option ℕ) → record_named file k (name_in file k) ≡ f
      → name_refusal file k ≡ cond (not t) 6 (carried_refusal f)
  unfolding name_refusal
  name_tests fits t et f ef = rw (lt-leb 64 k fits, et) (ap (λ (g : Option ℕ). cond (not t) 6 (carried_refusal g)) ef)

  name_passes : Named file k → name_refusal file k ≡ 0
  name_passes n =
      name_tests n.fits true ((well_formed_iff (name_in file k)).1 n.formed) None (name_new file (name_in file k) k n.new)

  -- the tests of mark and length
  marked : 2 ≤ bytes_left file k → envelope_kind file k ≡ marked_kind file k (bytes_left file k)
  unfolding envelope_kind
  marked h = rw (ne_eqb (bytes_left file k) 0 (λ e. omega arith), ne_eqb (bytes_left file k) 1 (λ e. omega arith))

  no_mark : NoMark file k → envelope_kind file k ≡ Refused 2
  unfolding envelope_kind marked_kind is_held
  no_mark (single_byte e) = rw (ne_eqb (bytes_left file k) 0 (λ z. omega arith), eq-eqb (bytes_left file k) 1 e)
  no_mark (other_mark h s d) = marked h ∙ rw (differ (mark_of file k) KS s, differ (mark_of file k) KD d)

  cut_short : CutShort file k → envelope_kind file k ≡ Refused 3
  unfolding marked_kind is_held
  cut_short (short_held m h l) = marked h ∙ rw (m, same_refl KS, lt-ltb (bytes_left file k) 42 l)
  cut_short (short_under m h l) = marked h ∙ rw (m, under_not_held, same_refl KD, lt-ltb (bytes_left file k) 11 l)

  at_held : WholeHeld file k → envelope_kind file k ≡ held_kind file k
  unfolding marked_kind is_held
  at_held w = marked (omega (arith, w.whole)) ∙ rw (w.mark, same_refl KS, le-ltb (bytes_left file k) 42 w.whole)

  at_under : WholeUnder file k → envelope_kind file k ≡ under_kind file k
  unfolding marked_kind is_held
  at_under w =
      marked (omega (arith, w.whole)) ∙ rw (w.mark, under_not_held, same_refl KD, le-ltb (bytes_left file k) 11 w.whole)

  name_refused : WholeRecord file k → {n : ℕ} → 0 < n → name_refusal file k ≡ n → envelope_kind file k ≡ Refused n
  unfolding held_kind under_kind
  name_refused (inl w) {n} h e = at_held w ∙ rw (e, ne_eqb n 0 (λ z. omega arith))
  name_refused (inr w) {n} h e = at_under w ∙ rw (e, ne_eqb n 0 (λ z. omega arith))

  -- the tests after the name
  held_later : WholeHeld file k → Named file k → 0 < k → envelope_kind file k ≡ Held
  unfolding held_kind
  held_later w n later = at_held w ∙ rw (name_passes n, ne_eqb k 0 (λ z. omega arith))

  under_later : WholeUnder file k → Named file k → 0 < k → (t : Bool) → leb k (place_in file k) ≡ t
      → envelope_kind file k ≡ cond t (Refused 19) (Under (place_in file k))
  unfolding under_kind
  under_later w n later t e =
      at_under w
      ∙ rw (name_passes n, ne_eqb k 0 (λ z. omega arith)) (ap (λ (b : Bool). cond b (Refused 19) (Under (place_in file k))) e)

-- the first record
module _ (file : List ℕ) where
  first_held : WholeHeld file 0 → Named file 0 → (t : Bool) → same_bytes (name_in file 0) (head_name file) ≡ t
      → envelope_kind file 0 ≡ cond t Held (Refused 18)
  unfolding held_kind
  first_held w n t e = at_held file 0 w ∙ rw (name_passes file 0 n) (ap (λ (b : Bool). cond b Held (Refused 18)) e)

  no_holder : {k : ℕ} → NoHolder file k → envelope_kind file k ≡ Refused 18
  unfolding envelope_kind under_kind
  no_holder (none_there e) = rw (eq-eqb (bytes_left file 0) 0 e)
  no_holder (not_held w n) = at_under file 0 w ∙ rw (name_passes file 0 n)
  no_holder (other_name w n d) = first_held w n false (differ (name_in file 0) (head_name file) d)

-- every row, and every record that passes
module _ (file : List ℕ) (k : ℕ) where
  refused_kind : {n : ℕ} → RefusedAt file k n → envelope_kind file k ≡ Refused n
  refused_kind (row_2 r) = no_mark file k r
  refused_kind (row_3 r) = cut_short file k r
  refused_kind (row_5 r) = name_refused file k r.record_at_lem (omega arith) (many_names file k r.more)
  refused_kind (row_6 r) =
      name_refused file k r.record_at_lem (omega arith)
      (name_tests file k r.fits false (malformed_false (name_in file k) r.malformed) (record_named file k (name_in file k)) refl)
  refused_kind (row_7 r) =
      let f = name_found_lem file (name_in file k) k r.earlier r.before r.carried in
      name_refused file k r.record_at_lem (omega arith)
      (name_tests file k r.fits true ((well_formed_iff (name_in file k)).1 r.formed) (Some f.0) f.1)
  refused_kind (row_18 r) = no_holder file r
  refused_kind (row_19 r) =
      under_later file k r.record_at_lem r.named r.later true (le-leb k (place_in file k) r.late)

  held_kind_lem : WholeHeld file k → Named file k → (k ≡ 0 → name_in file k ≡ head_name file) → envelope_kind file k ≡ Held
  held_kind_lem w n first = go (ℕ_discrete k 0)
    where
      go : Dec (k ≡ 0) → envelope_kind file k ≡ Held
      go (yes z) =
          rw z (first_held file (rw z at w) (rw z at n) true (same_true (name_in file 0) (head_name file) (rw z at (first z))))
      go (no d) = held_later file k w n (omega arith)

  pub kind_of : {kind : Kind} → Means file k kind → envelope_kind file k ≡ kind
  unfolding envelope_kind
  kind_of (is_end e later) = rw (eq-eqb (bytes_left file k) 0 e, ne_eqb k 0 (λ z. omega arith))
  kind_of (is_refused r) = refused_kind r
  kind_of (is_held_lem w n first) = held_kind_lem w n first
  kind_of (is_under w n later falls) = under_later file k w n later false (lt-leb k (place_in file k) falls)

-- From the answer to words: every record is read as something, and then `kind_of` says what the answer is.
module _ (file : List ℕ) (k : ℕ) where
  abbrev Meaning : Type 0
  Meaning = (kind : Kind) × Means file k kind

  abbrev no_row : {n : ℕ} → RefusedAt file k n → Meaning
  no_row {n} r = (Refused n, is_refused r)

  -- a whole record whose name passes goes on, any other is refused
  by_name : WholeRecord file k → (Named file k → Meaning) → Meaning
  by_name w on = go (dec_lt k 64) (form? (name_in file k)) (record_named file k (name_in file k)) refl
    where
      go : Dec (k < 64) → Dec (NameForm (name_in file k)) → (f : Option ℕ) → record_named file k (name_in file k) ≡ f → Meaning
      go (no h) form f e = no_row (row_5 record { record_at_lem = w; more = omega arith })
      go (yes fits) (no bad) f e = no_row (row_6 record { record_at_lem = w; fits = fits; malformed = bad })
      go (yes fits) (yes form) (Some i) e =
          let at = name_at file (name_in file k) k i e in
          no_row (row_7 record { record_at_lem = w; fits = fits; formed = form; earlier = i; before = at.below; carried = at.here })
      go (yes fits) (yes form) None e =
          on (record { fits = fits; formed = form; new = name_none file (name_in file k) k e })

  held_read : WholeHeld file k → Named file k → Meaning
  held_read w n = go (ℕ_discrete k 0) (same? (name_in file k) (head_name file))
    where
      other : k ≡ 0 → name_in file k ≢ head_name file → NoHolder file k
      other z d = rw z (other_name (rw z at w) (rw z at n) (rw z at d))

      go : Dec (k ≡ 0) → Dec (name_in file k ≡ head_name file) → Meaning
      go (no d) same = (Held, is_held_lem w n (λ z. absurd (d z)))
      go (yes z) (yes same) = (Held, is_held_lem w n (λ e. same))
      go (yes z) (no d) = no_row (row_18 (other z d))

  under_read : WholeUnder file k → Named file k → Meaning
  under_read w n = go (ℕ_discrete k 0) (dec_lt (place_in file k) k)
    where
      first : k ≡ 0 → NoHolder file k
      first z = rw z (not_held (rw z at w) (rw z at n))

      go : Dec (k ≡ 0) → Dec (place_in file k < k) → Meaning
      go (yes z) falls = no_row (row_18 (first z))
      go (no d) (yes falls) = (Under (place_in file k), is_under w n (omega arith) falls)
      go (no d) (no late) = no_row (row_19 record { later = omega arith; record_at_lem = w; named = n; late = omega arith })

  pub meaning : Meaning
  meaning = ended (ℕ_discrete left 0) (ℕ_discrete left 1)
    where
      left : ℕ
      left = bytes_left file k

      by_mark : 2 ≤ left → Dec (mark_of file k ≡ KS) → Dec (mark_of file k ≡ KD) → Dec (42 ≤ left) → Dec (11 ≤ left) → Meaning
      by_mark h (yes s) d (yes room) r = let w : WholeHeld file k = record { mark = s; whole = room } in by_name (inl w) (held_read w)
      by_mark h (yes s) d (no short) r = no_row (row_3 (short_held s h (omega arith)))
      by_mark h (no s) (yes d) q (yes room) = let w : WholeUnder file k = record { mark = d; whole = room } in by_name (inr w) (under_read w)
      by_mark h (no s) (yes d) q (no short) = no_row (row_3 (short_under d h (omega arith)))
      by_mark h (no s) (no d) q r = no_row (row_2 (other_mark h s d))

      none : left ≡ 0 → Dec (k ≡ 0) → Meaning
      none e (yes z) = no_row (row_18 (rw z (none_there (rw z at e))))
      none e (no d) = (End, is_end e (omega arith))

      ended : Dec (left ≡ 0) → Dec (left ≡ 1) → Meaning
      ended (yes e) s = none e (ℕ_discrete k 0)
      ended (no n) (yes e) = no_row (row_2 (single_byte e))
      ended (no n) (no m) = by_mark (omega arith) (same? (mark_of file k) KS) (same? (mark_of file k) KD) (dec_le 42 left) (dec_le 11 left)

  -- The answer for a record is what the words say, and only then.
  pub kind_iff : (kind : Kind) → (envelope_kind file k ≡ kind) ↔ Means file k kind
  kind_iff kind = (λ e. let r = meaning in rw (sym (kind_of file k r.1) ∙ e) at r.1, kind_of file k)

  pub refused_iff : (n : ℕ) → (envelope_kind file k ≡ Refused n) ↔ RefusedAt file k n
  refused_iff n = (λ e. go ((kind_iff (Refused n)).0 e), λ r. kind_of file k (is_refused r))
    where
      go : Means file k (Refused n) → RefusedAt file k n
      go (is_refused r) = r

  pub end_iff : (envelope_kind file k ≡ End) ↔ ((bytes_left file k ≡ 0) × (0 < k))
  end_iff = (λ e. go ((kind_iff End).0 e), λ r. kind_of file k (is_end r.0 r.1))
    where
      go : Means file k End → (bytes_left file k ≡ 0) × (0 < k)
      go (is_end e later) = (e, later)

  -- a record passes exactly when it holds a secret or stands under another
  abbrev pub PassingKind : Kind → Type 0
  PassingKind kind = (kind ≡ Held) ⊎ (kind ≡ Under (place_in file k))

  pub record_iff : PassingKind (envelope_kind file k) ↔ RecordAt file k
  record_iff = (back, on)
    where
      of_held : Means file k Held → RecordAt file k
      of_held (is_held_lem w n first) = held w n first

      of_under : {place : ℕ} → Means file k (Under place) → RecordAt file k
      of_under (is_under w n later falls) = under w n later falls

      back : PassingKind (envelope_kind file k) → RecordAt file k
      back (inl e) = of_held ((kind_iff Held).0 e)
      back (inr e) = of_under ((kind_iff (Under (place_in file k))).0 e)

      on : RecordAt file k → PassingKind (envelope_kind file k)
      on (held w n first) = inl (kind_of file k (is_held_lem w n first))
      on (under w n later falls) = inr (kind_of file k (is_under w n later falls))
