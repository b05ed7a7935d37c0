-- Laws of the reading of a roster file, turn by turn: what holds of the place that reading has come to and of the roster in hand there.
use Rattle.std.specs.Prelude.{None, Option, Some}
use Prim.Native.Nat.{ℕ, zero, suc, ◌+◌, ◌-◌, ◌≤◌, ◌<◌}
use mathlib.Core.Bool.{Bool, true, false, cond, false≢true}
use mathlib.Core.List.{List}
use mathlib.Core.Path.{◌≡◌, refl, sym, ap, ◌∙◌}
use native.Mathlib.Omega.{arith}
use lib.Dec.{eqb, ltb}
use lib.ListN.{length}
use borrow.Author.Tests.{eq-eqb, ne_eqb, eqb-true, ltb-true, ltb-false, le-leb, lt-leb}
use Rattle.roster_entry.proofs.Sizes.{Fits, entry_fits, fits_within}
use Rattle.roster_file.specs.File.{entry_at, size_of}
use Rattle.roster_file.specs.Machine.{Change, sets, refuses, is_number, standing_of, placing, asking, account_of, asked_of, number_of, changed}
use Rattle.roster_file.specs.Whole.{stopped, on_change, read_from}
use Rattle.roster_file.specs.declared.Entry.TheVariants.{Join, Move, Hold, Release, Withdraw, Refused}
use Rattle.roster_file.specs.declared.Entry.{Entry}
use Rattle.roster_file.specs.declared.Roster.{Roster}
use Rattle.roster_file.specs.declared.Standing.TheVariants.{Unknown, Withdrawn, On}
use Rattle.roster_file.specs.declared.Standing.{Standing}
use Rattle.roster_file.specs.declared.Stop.{Stop}
use Rattle.roster_reading.specs.Place.{goes_on, place_after}

-- ---- what a record asks for

-- a change comes from a record of at least 4 bytes, and a refusal has a number above 0
abbrev Sound : (size : ℕ) → Change → Type 0
Sound size (sets s) = 4 ≤ size
Sound size (refuses n) = 0 < n

either : (size : ℕ) (b : Bool) (x y : Change) → Sound size x → Sound size y → Sound size (cond b x y)
either size true x y f g = f
either size false x y f g = g

placing_sound : (size : ℕ) → 4 ≤ size → (target : Option ℕ) → Sound size (placing target)
placing_sound size h (Some l) = h
placing_sound size h None = omega arith

asking_sound : (left : ℕ) (entry : Entry) → Fits left entry → (s : Standing) → Sound (size_of entry) (asking entry s)
asking_sound left (Join number target) h Unknown = either 12 (is_number number) (placing target) (refuses 24) (placing_sound 12 (omega arith) target) (omega arith)
asking_sound left (Join number target) h Withdrawn = omega arith
asking_sound left (Join number target) h (On l activity) = omega arith
asking_sound left (Move number target) h Unknown = omega arith
asking_sound left (Move number target) h Withdrawn = omega arith
asking_sound left (Move number target) h (On l activity) = placing_sound 12 (omega arith) target
asking_sound left (Hold number) h Unknown = omega arith
asking_sound left (Hold number) h Withdrawn = omega arith
asking_sound left (Hold number) h (On l activity) = omega arith
asking_sound left (Release number) h Unknown = omega arith
asking_sound left (Release number) h Withdrawn = omega arith
asking_sound left (Release number) h (On l activity) = omega arith
asking_sound left (Withdraw number) h Unknown = omega arith
asking_sound left (Withdraw number) h Withdrawn = omega arith
asking_sound left (Withdraw number) h (On l activity) = omega arith
asking_sound left (Refused n) h s = h

asked_sound : (left : ℕ) (entry : Entry) → Fits left entry → (roster : Roster) → Sound (size_of entry) (asked_of roster entry)
unfolding asked_of
asked_sound left entry h roster = asking_sound left entry h (standing_of roster (account_of entry))

-- ---- the loop

-- a record that was not refused leads to the byte after it
pub passed_after : (entry : Entry) (refusal at : ℕ) → refusal ≡ 0 → at + size_of entry ≡ place_after entry refusal at
unfolding place_after
passed_after entry refusal at e = rw (eq-eqb refusal 0 e) refl

-- and one that was refused stays where reading is
pub refused_after : (entry : Entry) (refusal at : ℕ) → (refusal ≡ 0 → ⊥) → at ≡ place_after entry refusal at
unfolding place_after
refused_after entry refusal at e = rw (ne_eqb refusal 0 e) refl

-- whether reading goes on, by the test that led there
pub goes_on_to_end : (file : List ℕ) (refusal at : ℕ) → refusal ≡ 0 → ltb at (length file) ≡ goes_on file refusal at
unfolding goes_on
goes_on_to_end file refusal at e = rw (eq-eqb refusal 0 e)

pub refused_ends : (file : List ℕ) (refusal at : ℕ) → (refusal ≡ 0 → ⊥) → false ≡ goes_on file refusal at
unfolding goes_on
refused_ends file refusal at e = rw (ne_eqb refusal 0 e)

module _ (policy : List ℕ) (labels : ℕ) (file : List ℕ) where
  -- where reading stops from here on, for up to t records: at once if a record was refused
  abbrev pub rest_of : (t refusal at : ℕ) → Roster → Stop
  rest_of t refusal at roster = cond (eqb refusal 0) (read_from t policy labels file at roster) (stopped refusal at roster)

  -- reading has come to this place with this roster in hand, and has at most t records more to read
  pub record Reached (whole : Stop) (t refusal at : ℕ) (roster : Roster) : Type 0 where
    pub within : at ≤ length file
    pub enough : refusal ≡ 0 → length file ≤ at + t
    pub leads : rest_of t refusal at roster ≡ whole

  pub start : (roster : Roster) → Reached (read_from (length file) policy labels file 0 roster) (length file) 0 0 roster
  start roster = record { within = omega arith; enough = λ z. omega arith; leads = refl }

  -- reading goes on exactly where nothing was refused and the file has not ended
  goes_true : (refusal at : ℕ) → goes_on file refusal at ≡ true → (refusal ≡ 0) × (at < length file)
  unfolding goes_on
  goes_true refusal at = go (eqb refusal 0) refl
    where
      go : (b : Bool) → eqb refusal 0 ≡ b → cond b (ltb at (length file)) false ≡ true → (refusal ≡ 0) × (at < length file)
      go true e h = (eqb-true refusal 0 e, ltb-true at (length file) h)
      go false e h = absurd (false≢true h)

  end_of_file : (t at : ℕ) (roster : Roster) → length file ≤ at → read_from t policy labels file at roster ≡ stopped 0 at roster
  unfolding read_from
  end_of_file zero at roster l = refl
  end_of_file (suc t) at roster l = rw (le-leb (length file) at l)

  -- the loop ends: the stop is at this place
  pub ends : (whole : Stop) (t refusal at : ℕ) (roster : Roster) → Reached whole t refusal at roster → goes_on file refusal at ≡ false → stopped refusal at roster ≡ whole
  unfolding goes_on
  ends whole t refusal at roster h = go (eqb refusal 0) refl
    where
      go : (b : Bool) → eqb refusal 0 ≡ b → cond b (ltb at (length file)) false ≡ false → stopped refusal at roster ≡ whole
      go true e f =
          let none = eqb-true refusal 0 e in
          ap (λ (n : ℕ). stopped n at roster) none ∙ sym (end_of_file t at roster (ltb-false at (length file) f))
          ∙ ap (λ (b : Bool). cond b (read_from t policy labels file at roster) (stopped refusal at roster)) (sym e) ∙ h.leads
      go false e f = ap (λ (b : Bool). cond b (read_from t policy labels file at roster) (stopped refusal at roster)) (sym e) ∙ h.leads

  one_record : (t at : ℕ) (roster : Roster) → at < length file
      → read_from (suc t) policy labels file at roster ≡ on_change (read_from t policy labels file) at roster (entry_at policy labels file at) (asked_of roster (entry_at policy labels file at))
  unfolding read_from
  one_record t at roster l = rw (lt-leb (length file) at l)

  -- a record that is refused is where reading stops
  refused_stays : (entry : Entry) (n at : ℕ) → 0 < n → place_after entry n at ≡ at
  unfolding place_after
  refused_stays entry n at some = ap (λ (b : Bool). cond b (at + size_of entry) at) (ne_eqb n 0 (λ z. omega (arith, some, z)))

  -- one turn of the loop, whatever the record asks for
  turned : (whole : Stop) (t at : ℕ) (roster : Roster) (entry : Entry) → at < length file → length file ≤ at + suc t → size_of entry ≤ length file - at
      → (c : Change) → Sound (size_of entry) c → on_change (read_from t policy labels file) at roster entry c ≡ whole
      → Reached whole t (number_of c) (place_after entry (number_of c) at) (changed roster (account_of entry) c)
  unfolding place_after
  turned whole t at roster entry l more fits (sets s) sound e = record { within = omega arith; enough = λ z. omega arith; leads = e }
  turned whole t at roster entry l more fits (refuses n) sound e =
      let some : eqb n 0 ≡ false = ne_eqb n 0 (λ z. omega (arith, sound, z)) in
      let stays = refused_stays entry n at sound in
      record { within = rw stays (omega arith); enough = λ z. absurd (omega (arith, sound, z)); leads = rw (stays, some) e }

  -- a record that is read and obeyed: the roster is as the record leaves it, and there are fewer records to read
  pub turns : (whole : Stop) (t refusal at : ℕ) (roster : Roster) → Reached whole t refusal at roster → goes_on file refusal at ≡ true
      → let entry = entry_at policy labels file at in let c = asked_of roster entry in
      (t' : ℕ) × (t' < t) × Reached whole t' (number_of c) (place_after entry (number_of c) at) (changed roster (account_of entry) c)
  turns whole zero refusal at roster h g = let on = goes_true refusal at g in absurd (omega (arith, h.enough on.0, on.1))
  turns whole (suc t) refusal at roster h g =
      let on = goes_true refusal at g in
      let entry = entry_at policy labels file at in
      let fits = entry_fits policy labels file at in
      let read : read_from (suc t) policy labels file at roster ≡ whole =
      ap (λ (b : Bool). cond b (read_from (suc t) policy labels file at roster) (stopped refusal at roster)) (sym (eq-eqb refusal 0 on.0)) ∙ h.leads
      in (
        t,
        omega arith,
        turned whole t at roster entry on.1 (h.enough on.0) (fits_within (length file - at) entry fits) (asked_of roster entry) (asked_sound (length file - at) entry fits roster)
            (sym (one_record t at roster on.1) ∙ read),
      )

  -- the same, of a record, an answer, a place and a roster that are known by equations
  pub obeyed : (whole : Stop) (t refusal at : ℕ) (roster : Roster) → Reached whole t refusal at roster → goes_on file refusal at ≡ true
      → (entry : Entry) → entry ≡ entry_at policy labels file at → (r : ℕ) (after : Roster) → (r ≡ number_of (asked_of roster entry)) × (after ≡ changed roster (account_of entry) (asked_of roster entry))
      → (next : ℕ) → next ≡ place_after entry r at → (t' : ℕ) × (t' < t) × Reached whole t' r next after
  obeyed whole t refusal at roster h g entry e r after told next n =
      rw (n, told.0, told.1, e) (turns whole t refusal at roster h g)

  -- the bytes that are left to read, 0 after a refusal: a record that is read leaves fewer
  abbrev pub left : (refusal at : ℕ) → ℕ
  left refusal at = cond (eqb refusal 0) (length file + 1 - at) 0

  fewer : (at : ℕ) (entry : Entry) → at < length file → (c : Change) → Sound (size_of entry) c → left (number_of c) (place_after entry (number_of c) at) < length file + 1 - at
  unfolding place_after
  fewer at entry l (sets s) sound = omega arith
  fewer at entry l (refuses n) sound =
      let some : eqb n 0 ≡ false = ne_eqb n 0 (λ z. omega (arith, sound, z)) in
      rw some (omega arith)

  pub leaves_fewer : (refusal at : ℕ) (roster : Roster) → goes_on file refusal at ≡ true
      → (entry : Entry) → entry ≡ entry_at policy labels file at → (r : ℕ) → r ≡ number_of (asked_of roster entry)
      → (next : ℕ) → next ≡ place_after entry r at → left r next < left refusal at
  leaves_fewer refusal at roster g entry e r told next n =
      let on = goes_true refusal at g in
      let read = entry_at policy labels file at in
      rw (n, told, e, eq-eqb refusal 0 on.0)
      (fewer at read on.1 (asked_of roster read) (asked_sound (length file - at) read (entry_fits policy labels file at) roster))
