-- One record of a policy file, read after so many labels and pairs: a label, an over-pair, the end of the file or a refusal.
-- Refusals in the order of 01's table: 2 and 3 at any record; 4 to 7 at `LB`; 5, 8 and 9 at `OV`.
use Rattle.std.specs.Prelude.{ℕ, ◌-◌, cond, not, List, leb, ltb, eqb, length, replicate, None, Option, Some}
use Rattle.format.specs.Bytes.{bytes_at, same_bytes}
use Rattle.format.specs.Marks.{LB, OV}
use Rattle.format.specs.Names.{well_formed}
use Rattle.policy_file.specs.File.{place_of, name_of, count_of, pair_at, label_named}
use Rattle.policy_file.specs.declared.Kind.TheVariants.{Label, Over, End, Refused}
use Rattle.policy_file.specs.declared.Kind.{Kind}
use Rattle.policy_file.specs.declared.Record.{Record}

-- a label whose name an earlier record carries is refused
abbrev pub unless_found : Option ℕ → Kind → Kind
unless_found (Some i) k = Refused 7
unless_found None k = k

-- the next label, with its count
unfoldable pub label_kind : List ℕ → ℕ → Kind
label_kind file labels =
    cond (leb 64 labels) (Refused 5)
    (cond (not (well_formed (name_of file labels))) (Refused 6)
    (unless_found (label_named file labels (name_of file labels))
    (Label (count_of file labels))))

-- the next over-pair
unfoldable pub over_kind : List ℕ → ℕ → ℕ → Kind
over_kind file labels pairs =
    let p = pair_at file labels pairs in
    cond (leb 512 pairs) (Refused 5)
    (cond (leb labels p.upper) (Refused 8)
    (cond (leb labels p.lower) (Refused 8)
    (cond (leb p.lower p.upper) (Refused 9)
    (Over p))))

-- the record after so many labels and pairs, with `left` bytes from its start on
unfoldable pub marked_kind : List ℕ → ℕ → ℕ → ℕ → Kind
marked_kind file labels pairs left =
    let mark = bytes_at file (place_of labels pairs) 2 in
    cond (same_bytes mark LB)
    (cond (ltb left 12) (Refused 3) (cond (ltb 0 pairs) (Refused 4) (label_kind file labels)))
    (cond (same_bytes mark OV)
    (cond (ltb left 4) (Refused 3) (over_kind file labels pairs))
    (Refused 2))

unfoldable pub policy_kind : List ℕ → ℕ → ℕ → Kind
policy_kind file labels pairs =
    let left = length file - place_of labels pairs in
    cond (eqb left 0) End (cond (eqb left 1) (Refused 2) (marked_kind file labels pairs left))

-- the number of a refused record; 0 for any other kind
abbrev pub kind_number : Kind → ℕ
kind_number (Label count) = 0
kind_number (Over pair) = 0
kind_number End = 0
kind_number (Refused number) = number

-- a record that has no name
abbrev pub unnamed_of : Kind → Record
unnamed_of kind = record { name = replicate 8 0; kind = kind }

-- the name beside a label; zeros beside anything else
abbrev pub name_beside : List ℕ → ℕ → Kind → List ℕ
name_beside file labels (Label count) = name_of file labels
name_beside file labels (Over pair) = replicate 8 0
name_beside file labels End = replicate 8 0
name_beside file labels (Refused number) = replicate 8 0

unfoldable pub with_name : List ℕ → ℕ → Kind → Record
with_name file labels kind = record { name = name_beside file labels kind; kind = kind }

unfoldable pub record_at : List ℕ → ℕ → ℕ → Record
record_at file labels pairs = with_name file labels (policy_kind file labels pairs)
