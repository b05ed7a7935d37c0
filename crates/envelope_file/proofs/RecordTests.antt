-- Laws of one record: its kind by the tests that led there.
use Rattle.std.specs.Prelude.{None, Some}
use Prim.Native.Nat.{ℕ, ◌-◌, ◌≤◌, ◌<◌}
use mathlib.Core.Bool.{true, false}
use mathlib.Core.List.{List}
use mathlib.Core.Path.{◌≡◌, ◌∙◌}
use lib.ListN.{length}
use borrow.Author.Tests.{le-leb, lt-leb, lt-ltb, le-ltb, eq-eqb, ne_eqb}
use Rattle.format.specs.Bytes.{bytes_at, same_bytes}
use Rattle.format.specs.Marks.{KD}
use Rattle.format.specs.Names.{well_formed}
use Rattle.envelope_file.specs.File.{head_name, start_of, is_held, name_in, place_in, record_named}
use Rattle.envelope_file.specs.Record.{name_refusal, held_kind, under_kind, marked_kind, envelope_kind}
use Rattle.envelope_file.specs.declared.Kind.TheVariants.{Held, Under, End, Refused}

module _ (file : List ℕ) (k : ℕ) where
  -- its name
  pub name_many : 64 ≤ k → name_refusal file k ≡ 5
  unfolding name_refusal
  name_many h = rw (le-leb 64 k h)

  module _ (few : k < 64) where
    pub name_unformed : well_formed (name_in file k) ≡ false → name_refusal file k ≡ 6
    unfolding name_refusal
    name_unformed e = rw (lt-leb 64 k few, e)

    pub name_carried : well_formed (name_in file k) ≡ true → (i : ℕ) → record_named file k (name_in file k) ≡ Some i → name_refusal file k ≡ 7
    unfolding name_refusal
    name_carried e i found = rw (lt-leb 64 k few, e, found)

    pub name_new : well_formed (name_in file k) ≡ true → record_named file k (name_in file k) ≡ None → name_refusal file k ≡ 0
    unfolding name_refusal
    name_new e found = rw (lt-leb 64 k few, e, found)

  -- a whole record whose name is refused
  module _ (number : ℕ) (e : number ≡ name_refusal file k) (some : number ≡ 0 → ⊥) where
    pub held_refused : held_kind file k ≡ Refused number
    unfolding held_kind
    held_refused = rw (← e, ne_eqb number 0 some)

    pub under_refused : under_kind file k ≡ Refused number
    unfolding under_kind
    under_refused = rw (← e, ne_eqb number 0 some)

  -- a whole record whose name is not refused
  module _ (named : name_refusal file k ≡ 0) where
    pub held_unlike : k ≡ 0 → same_bytes (name_in file k) (head_name file) ≡ false → held_kind file k ≡ Refused 18
    unfolding held_kind
    held_unlike z e = rw (named, eq-eqb k 0 z, e)

    pub held_first : k ≡ 0 → same_bytes (name_in file k) (head_name file) ≡ true → held_kind file k ≡ Held
    unfolding held_kind
    held_first z e = rw (named, eq-eqb k 0 z, e)

    pub held_later : (k ≡ 0 → ⊥) → held_kind file k ≡ Held
    unfolding held_kind
    held_later z = rw (named, ne_eqb k 0 z)

    pub under_first : k ≡ 0 → under_kind file k ≡ Refused 18
    unfolding under_kind
    under_first z = rw (named, eq-eqb k 0 z)

    module _ (later : k ≡ 0 → ⊥) where
      pub under_late : k ≤ place_in file k → under_kind file k ≡ Refused 19
      unfolding under_kind
      under_late h = rw (named, ne_eqb k 0 later, le-leb k (place_in file k) h)

      pub under_read : place_in file k < k → under_kind file k ≡ Under (place_in file k)
      unfolding under_kind
      under_read h = rw (named, ne_eqb k 0 later, lt-leb k (place_in file k) h)

  -- the record after k others
  abbrev pub left : ℕ
  left = length file - start_of file k

  abbrev pub mark : List ℕ
  mark = bytes_at file (start_of file k) 2

  pub kind_none : left ≡ 0 → k ≡ 0 → envelope_kind file k ≡ Refused 18
  unfolding envelope_kind
  kind_none e z = rw (eq-eqb left 0 e, eq-eqb k 0 z)

  pub kind_end : left ≡ 0 → (k ≡ 0 → ⊥) → envelope_kind file k ≡ End
  unfolding envelope_kind
  kind_end e z = rw (eq-eqb left 0 e, ne_eqb k 0 z)

  pub kind_single : left ≡ 1 → envelope_kind file k ≡ Refused 2
  unfolding envelope_kind
  kind_single e = rw e

  module _ (none : left ≡ 0 → ⊥) (single : left ≡ 1 → ⊥) where
    kind_marked : envelope_kind file k ≡ marked_kind file k left
    unfolding envelope_kind
    kind_marked = rw (ne_eqb left 0 none, ne_eqb left 1 single)

    module _ (ks : is_held file k ≡ true) where
      pub held_short : left < 42 → envelope_kind file k ≡ Refused 3
      unfolding marked_kind
      held_short h = kind_marked ∙ rw (ks, lt-ltb left 42 h)

      pub held_whole : 42 ≤ left → envelope_kind file k ≡ held_kind file k
      unfolding marked_kind
      held_whole h = kind_marked ∙ rw (ks, le-ltb left 42 h)

    module _ (ks : is_held file k ≡ false) where
      pub kind_foreign : same_bytes mark KD ≡ false → envelope_kind file k ≡ Refused 2
      unfolding marked_kind
      kind_foreign kd = kind_marked ∙ rw (ks, kd)

      pub under_short : same_bytes mark KD ≡ true → left < 11 → envelope_kind file k ≡ Refused 3
      unfolding marked_kind
      under_short kd h = kind_marked ∙ rw (ks, kd, lt-ltb left 11 h)

      pub under_whole : same_bytes mark KD ≡ true → 11 ≤ left → envelope_kind file k ≡ under_kind file k
      unfolding marked_kind
      under_whole kd h = kind_marked ∙ rw (ks, kd, le-ltb left 11 h)
