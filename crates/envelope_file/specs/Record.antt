-- One record of an envelope, read after k others: one that holds a secret, one that stands under the record at a place, the end of the
-- file or a refusal. Refusals in the order of 01's table: 2, 3, 5, 6 and 7 at any record, 18 at the first, 19 at `KD`.
use Rattle.std.specs.Prelude.{ℕ, ◌-◌, cond, not, List, leb, ltb, eqb, length, None, Option, Some}
use Rattle.format.specs.Bytes.{bytes_at, same_bytes}
use Rattle.format.specs.Marks.{KD}
use Rattle.format.specs.Names.{well_formed}
use Rattle.envelope_file.specs.File.{head_name, start_of, is_held, name_in, place_in, record_named}
use Rattle.envelope_file.specs.declared.Kind.TheVariants.{Held, Under, End, Refused}
use Rattle.envelope_file.specs.declared.Kind.{Kind}

-- 7, "name carried by an earlier record"
abbrev pub carried_refusal : Option ℕ → ℕ
carried_refusal (Some i) = 7
carried_refusal None = 0

-- 5, "65th envelope record"; 6, "name badly formed"; 7; or 0
unfoldable pub name_refusal : List ℕ → ℕ → ℕ
name_refusal file k =
    cond (leb 64 k) 5
    (cond (not (well_formed (name_in file k))) 6
    (carried_refusal (record_named file k (name_in file k))))

-- a whole `KS` record; 18 at the first, "name unlike the header's"
unfoldable pub held_kind : List ℕ → ℕ → Kind
held_kind file k =
    cond (eqb (name_refusal file k) 0)
    (cond (eqb k 0) (cond (same_bytes (name_in file k) (head_name file)) Held (Refused 18)) Held)
    (Refused (name_refusal file k))

-- a whole `KD` record; 18 at the first, "not `KS`"; 19, "place not less than its own"
unfoldable pub under_kind : List ℕ → ℕ → Kind
under_kind file k =
    cond (eqb (name_refusal file k) 0)
    (cond (eqb k 0) (Refused 18) (cond (leb k (place_in file k)) (Refused 19) (Under (place_in file k))))
    (Refused (name_refusal file k))

-- a record of at least two bytes, of which `left` are there; 2, "a mark not belonging to this file"; 3, "record cut short"
unfoldable pub marked_kind : List ℕ → ℕ → ℕ → Kind
marked_kind file k left =
    cond (is_held file k)
    (cond (ltb left 42) (Refused 3) (held_kind file k))
    (cond (same_bytes (bytes_at file (start_of file k) 2) KD)
    (cond (ltb left 11) (Refused 3) (under_kind file k))
    (Refused 2))

-- 18 at the first, "none there"; 2, "a single byte left"
unfoldable pub envelope_kind : List ℕ → ℕ → Kind
envelope_kind file k =
    let left = length file - start_of file k in
    cond (eqb left 0) (cond (eqb k 0) (Refused 18) End) (cond (eqb left 1) (Refused 2) (marked_kind file k left))
