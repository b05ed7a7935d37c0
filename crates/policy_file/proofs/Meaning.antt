-- One record: what `policy_kind` answers is what the rows of the table say in words.
use Rattle.std.specs.Prelude.{None, Option, Some}
use Prim.Native.Nat.{ℕ, ◌≤◌, ◌<◌}
use mathlib.Core.Bool.{Bool, true, false, cond, not, false≢true}
use mathlib.Core.List.{List, [], ◌∷◌}
use mathlib.Core.Logic.{◌↔◌, ◌⊎◌, inl, inr}
use mathlib.Core.Path.{◌≡◌, refl, sym, ap, ◌∙◌}
use native.Mathlib.Decide.{dec_le, dec_lt, ℕ_discrete}
use native.Mathlib.Omega.{arith}
use borrow.Author.Tests.{lt-ltb, le-ltb, le-leb, lt-leb, eq-eqb, ne_eqb}
use lib.Dec.{leb, ltb}
use lib.ListN.{length, length-take, length-drop}
use Rattle.format.proofs.Bytes.{same_refl, same?, differ}
use Rattle.format.proofs.Form.{well_formed_iff, form?, malformed_false}
use Rattle.format.specs.Bytes.{same_bytes}
use Rattle.format.specs.Form.{NameForm}
use Rattle.format.specs.Marks.{LB, OV}
use Rattle.format.specs.Names.{well_formed}
use Rattle.order.specs.declared.Pair.{Pair}
use Rattle.policy_file.proofs.Names.{name_at, name_none, name_found_lem, name_new}
use Rattle.policy_file.specs.File.{name_of, count_of, pair_at, label_named}
use Rattle.policy_file.specs.Record.{unless_found, label_kind, over_kind, marked_kind, policy_kind}
use Rattle.policy_file.specs.Rows.{bytes_left, mark_of, WholeLabel, WholeOver, NoMark, single_byte, other_mark, CutShort, short_label, short_over, TooMany, label_65, over_513, LabelFits, OverFits, NoSuchLabel, RefusedAt, row_2, row_3, row_4, row_5, row_6, row_7, row_8, row_9, LabelAt, OverAt}
use Rattle.policy_file.specs.declared.Kind.TheVariants.{Label, Over, End, Refused}
use Rattle.policy_file.specs.declared.Kind.{Kind}

-- what a record read is, in words
pub data Means (file : List ℕ) (labels pairs : ℕ) : Kind → Type 0 where
  is_end : bytes_left file labels pairs ≡ 0 → Means file labels pairs End
  is_refused : {n : ℕ} → RefusedAt file labels pairs n → Means file labels pairs (Refused n)
  is_label : LabelAt file labels pairs → Means file labels pairs (Label (count_of file labels))
  is_over : OverAt file labels pairs → Means file labels pairs (Over (pair_at file labels pairs))

-- a mark takes two bytes, and the two marks differ
mark_room : (file : List ℕ) (labels pairs a b : ℕ) → mark_of file labels pairs ≡ a ∷ b ∷ [] → 2 ≤ bytes_left file labels pairs
mark_room file labels pairs a b e = omega (arith, simp (length-take, length-drop) at (ap length e))

over_not_label : same_bytes OV LB ≡ false
unfolding same_bytes
over_not_label = refl

-- From words to the answer: the tests come out as the words say.
module _ (file : List ℕ) (labels pairs : ℕ) where
  pub marked : 2 ≤ bytes_left file labels pairs → policy_kind file labels pairs ≡ marked_kind file labels pairs (bytes_left file labels pairs)
  unfolding policy_kind
  marked h = rw (ne_eqb (bytes_left file labels pairs) 0 (λ e. omega arith), ne_eqb (bytes_left file labels pairs) 1 (λ e. omega arith))

  no_mark : NoMark file labels pairs → policy_kind file labels pairs ≡ Refused 2
  unfolding policy_kind marked_kind
  no_mark (single_byte e) = rw (ne_eqb (bytes_left file labels pairs) 0 (λ z. omega arith), eq-eqb (bytes_left file labels pairs) 1 e)
  no_mark (other_mark h l o) = marked h ∙ rw (differ (mark_of file labels pairs) LB l, differ (mark_of file labels pairs) OV o)

  cut_short : CutShort file labels pairs → policy_kind file labels pairs ≡ Refused 3
  unfolding marked_kind
  cut_short (short_label m l) =
      marked (mark_room file labels pairs 76 66 m) ∙ rw (m, same_refl LB, lt-ltb (bytes_left file labels pairs) 12 l)
  cut_short (short_over m l) =
      marked (mark_room file labels pairs 79 86 m) ∙ rw (m, over_not_label, same_refl OV, lt-ltb (bytes_left file labels pairs) 4 l)

  at_label : WholeLabel file labels pairs → policy_kind file labels pairs ≡ cond (ltb 0 pairs) (Refused 4) (label_kind file labels)
  unfolding marked_kind
  at_label w =
      marked (omega (arith, w.whole)) ∙ rw (w.mark, same_refl LB, le-ltb (bytes_left file labels pairs) 12 w.whole)

  at_over : WholeOver file labels pairs → policy_kind file labels pairs ≡ over_kind file labels pairs
  unfolding marked_kind
  at_over w =
      marked (omega (arith, w.whole))
      ∙ rw (w.mark, over_not_label, same_refl OV, le-ltb (bytes_left file labels pairs) 4 w.whole)

  too_many : TooMany file labels pairs → policy_kind file labels pairs ≡ Refused 5
  unfolding label_kind over_kind
  too_many (label_65 w e h) = at_label w ∙ rw (le-ltb 0 pairs (omega arith), le-leb 64 labels h)
  too_many (over_513 w h) = at_over w ∙ rw (le-leb 512 pairs h)

  label_fits : LabelFits file labels pairs → (t : Bool) → well_formed (name_of file labels) ≡ t
      → (f : Option ℕ) → label_named file labels (name_of file labels) ≡ f
      → policy_kind file labels pairs ≡ cond (not t) (Refused 6) (unless_found f (Label (count_of file labels)))
  unfolding label_kind
  label_fits l t et f ef =
      at_label l.record_at_lem ∙ rw (le-ltb 0 pairs (omega (arith, l.in_time)), lt-leb 64 labels l.fits, et, ef)

  over_fits : OverFits file labels pairs → (u v w : Bool) → leb labels (pair_at file labels pairs).upper ≡ u
      → leb labels (pair_at file labels pairs).lower ≡ v → leb (pair_at file labels pairs).lower (pair_at file labels pairs).upper ≡ w
      → policy_kind file labels pairs ≡ cond u (Refused 8) (cond v (Refused 8) (cond w (Refused 9) (Over (pair_at file labels pairs))))
  unfolding over_kind
  over_fits o u v w eu ev ew = at_over o.record_at_lem ∙ rw (lt-leb 512 pairs o.fits, eu, ev, ew)

  no_such_label : NoSuchLabel file labels pairs → policy_kind file labels pairs ≡ Refused 8
  no_such_label r = go r.missing (leb labels up) refl (leb labels low) refl
    where
      up : ℕ
      up = (pair_at file labels pairs).upper

      low : ℕ
      low = (pair_at file labels pairs).lower

      go : (labels ≤ up) ⊎ (labels ≤ low) → (u : Bool) → leb labels up ≡ u → (v : Bool) → leb labels low ≡ v → policy_kind file labels pairs ≡ Refused 8
      go m true eu v ev = over_fits r.over true v (leb low up) eu ev refl
      go m false eu true ev = over_fits r.over false true (leb low up) eu ev refl
      go (inl h) false eu false ev = absurd (false≢true (sym eu ∙ le-leb labels up h))
      go (inr h) false eu false ev = absurd (false≢true (sym ev ∙ le-leb labels low h))

  refused_kind : {n : ℕ} → RefusedAt file labels pairs n → policy_kind file labels pairs ≡ Refused n
  refused_kind (row_2 r) = no_mark r
  refused_kind (row_3 r) = cut_short r
  refused_kind (row_4 r) = at_label r.record_at_lem ∙ rw (lt-ltb 0 pairs r.late)
  refused_kind (row_5 r) = too_many r
  refused_kind (row_6 r) =
      label_fits r.label false (malformed_false (name_of file labels) r.malformed) (label_named file labels (name_of file labels)) refl
  refused_kind (row_7 r) =
      let f = name_found_lem file (name_of file labels) labels r.earlier r.before r.carried in
      label_fits r.label true ((well_formed_iff (name_of file labels)).1 r.formed) (Some f.0) f.1
  refused_kind (row_8 r) = no_such_label r
  refused_kind (row_9 r) =
      over_fits r.over false false true (lt-leb labels (pair_at file labels pairs).upper r.upper)
      (lt-leb labels (pair_at file labels pairs).lower r.lower)
      (le-leb (pair_at file labels pairs).lower (pair_at file labels pairs).upper r.rises)

  pub kind_of : {k : Kind} → Means file labels pairs k → policy_kind file labels pairs ≡ k
  unfolding policy_kind
  kind_of (is_end e) = rw (eq-eqb (bytes_left file labels pairs) 0 e)
  kind_of (is_refused r) = refused_kind r
  kind_of (is_label r) =
      label_fits r.label true ((well_formed_iff (name_of file labels)).1 r.formed) None (name_new file (name_of file labels) labels r.new)
  kind_of (is_over r) =
      over_fits r.over false false false (lt-leb labels (pair_at file labels pairs).upper (omega (arith, r.lower, r.falls)))
      (lt-leb labels (pair_at file labels pairs).lower r.lower)
      (lt-leb (pair_at file labels pairs).lower (pair_at file labels pairs).upper r.falls)

-- From the answer to words: every record is read as something, and then `kind_of` says what the answer is.
module _ (file : List ℕ) (labels pairs : ℕ) where
  abbrev Meaning : Type 0
  Meaning = (k : Kind) × Means file labels pairs k

  abbrev no_row : {n : ℕ} → RefusedAt file labels pairs n → Meaning
  no_row {n} r = (Refused n, is_refused r)

  read_name : LabelFits file labels pairs → NameForm (name_of file labels) → Meaning
  read_name l form = go (label_named file labels (name_of file labels)) refl
    where
      go : (f : Option ℕ) → label_named file labels (name_of file labels) ≡ f → Meaning
      go (Some k) e =
          let at = name_at file (name_of file labels) labels k e in
          no_row (row_7 record { label = l; formed = form; earlier = k; before = at.below; carried = at.here })
      go None e =
          (Label (count_of file labels), is_label record { label = l; formed = form; new = name_none file (name_of file labels) labels e })

  read_label : WholeLabel file labels pairs → Meaning
  read_label w = late (dec_lt 0 pairs)
    where
      named : LabelFits file labels pairs → Dec (NameForm (name_of file labels)) → Meaning
      named l (yes form) = read_name l form
      named l (no bad) = no_row (row_6 record { label = l; malformed = bad })

      many : pairs ≡ 0 → Dec (labels < 64) → Meaning
      many e (yes fits) = named (record { record_at_lem = w; in_time = e; fits = fits }) (form? (name_of file labels))
      many e (no h) = no_row (row_5 (label_65 w e (omega arith)))

      late : Dec (0 < pairs) → Meaning
      late (yes h) = no_row (row_4 record { record_at_lem = w; late = h })
      late (no h) = many (omega arith) (dec_lt labels 64)

  read_over : WholeOver file labels pairs → Meaning
  read_over w = many (dec_lt pairs 512)
    where
      up : ℕ
      up = (pair_at file labels pairs).upper

      low : ℕ
      low = (pair_at file labels pairs).lower

      falls : OverFits file labels pairs → Dec (up < labels) → Dec (low < labels) → Dec (up < low) → Meaning
      falls o (no h) v f = no_row (row_8 record { over = o; missing = inl (omega arith) })
      falls o (yes u) (no h) f = no_row (row_8 record { over = o; missing = inr (omega arith) })
      falls o (yes u) (yes v) (no h) = no_row (row_9 record { over = o; upper = u; lower = v; rises = omega arith })
      falls o (yes u) (yes v) (yes f) = (Over (pair_at file labels pairs), is_over record { over = o; lower = v; falls = f })

      many : Dec (pairs < 512) → Meaning
      many (yes fits) = falls (record { record_at_lem = w; fits = fits }) (dec_lt up labels) (dec_lt low labels) (dec_lt up low)
      many (no h) = no_row (row_5 (over_513 w (omega arith)))

  pub meaning : Meaning
  meaning = ended (ℕ_discrete left 0) (ℕ_discrete left 1)
    where
      left : ℕ
      left = bytes_left file labels pairs

      mark : List ℕ
      mark = mark_of file labels pairs

      by_mark : 2 ≤ left → Dec (mark ≡ LB) → Dec (mark ≡ OV) → Dec (12 ≤ left) → Dec (4 ≤ left) → Meaning
      by_mark h (yes l) o (yes room) r = read_label (record { mark = l; whole = room })
      by_mark h (yes l) o (no short) r = no_row (row_3 (short_label l (omega arith)))
      by_mark h (no l) (yes o) q (yes room) = read_over (record { mark = o; whole = room })
      by_mark h (no l) (yes o) q (no short) = no_row (row_3 (short_over o (omega arith)))
      by_mark h (no l) (no o) q r = no_row (row_2 (other_mark h l o))

      ended : Dec (left ≡ 0) → Dec (left ≡ 1) → Meaning
      ended (yes e) s = (End, is_end e)
      ended (no n) (yes e) = no_row (row_2 (single_byte e))
      ended (no n) (no m) = by_mark (omega arith) (same? mark LB) (same? mark OV) (dec_le 12 left) (dec_le 4 left)

  -- The answer for a record is what the words say, and only then.
  pub kind_iff : (k : Kind) → (policy_kind file labels pairs ≡ k) ↔ Means file labels pairs k
  kind_iff k = (λ e. let r = meaning in rw (sym (kind_of file labels pairs r.1) ∙ e) at r.1, kind_of file labels pairs)

  pub refused_iff : (n : ℕ) → (policy_kind file labels pairs ≡ Refused n) ↔ RefusedAt file labels pairs n
  refused_iff n = (λ e. go ((kind_iff (Refused n)).0 e), refused_kind file labels pairs)
    where
      go : Means file labels pairs (Refused n) → RefusedAt file labels pairs n
      go (is_refused r) = r

  pub label_iff : (count : ℕ) → (policy_kind file labels pairs ≡ Label count) ↔ ((count ≡ count_of file labels) × LabelAt file labels pairs)
  label_iff count = (λ e. go ((kind_iff (Label count)).0 e), λ r. kind_of file labels pairs (is_label r.1) ∙ ap Label (sym r.0))
    where
      go : {c : ℕ} → Means file labels pairs (Label c) → (c ≡ count_of file labels) × LabelAt file labels pairs
      go (is_label r) = (refl, r)

  pub over_iff : (pair : Pair) → (policy_kind file labels pairs ≡ Over pair) ↔ ((pair ≡ pair_at file labels pairs) × OverAt file labels pairs)
  over_iff pair = (λ e. go ((kind_iff (Over pair)).0 e), λ r. kind_of file labels pairs (is_over r.1) ∙ ap Over (sym r.0))
    where
      go : {p : Pair} → Means file labels pairs (Over p) → (p ≡ pair_at file labels pairs) × OverAt file labels pairs
      go (is_over r) = (refl, r)

  pub end_iff : (policy_kind file labels pairs ≡ End) ↔ (bytes_left file labels pairs ≡ 0)
  end_iff = (λ e. go ((kind_iff End).0 e), λ r. kind_of file labels pairs (is_end r))
    where
      go : Means file labels pairs End → bytes_left file labels pairs ≡ 0
      go (is_end r) = r
