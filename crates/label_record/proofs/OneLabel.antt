-- Laws of the next label: the comparison with a name that is read, and its kind by the tests that led there.
use Rattle.std.specs.Prelude.{None, Some}
use Prim.Native.Nat.{ℕ, ◌+◌, ◌*◌, ◌≤◌, ◌<◌}
use mathlib.Core.Bool.{true, false}
use mathlib.Core.List.{List}
use mathlib.Core.Path.{◌≡◌}
use borrow.Author.Tests.{le-leb, lt-leb}
use Rattle.format.specs.Bytes.{bytes_at, same_bytes}
use Rattle.format.specs.Names.{well_formed}
use Rattle.policy_file.specs.File.{name_of, is_named, count_of, label_named}
use Rattle.policy_file.specs.Record.{label_kind}
use Rattle.policy_file.specs.declared.Kind.TheVariants.{Label, Refused}

-- a comparison with label i's name, once that is read
pub named : (file name read : List ℕ) (i : ℕ) → read ≡ bytes_at file (12 * i + 2) 8 → is_named file name i ≡ same_bytes read name
unfolding is_named name_of
named file name read i e = rw e

-- the next label, by the tests that led there
module _ (file : List ℕ) (labels : ℕ) where
  pub label_many : 64 ≤ labels → label_kind file labels ≡ Refused 5
  unfolding label_kind
  label_many h = rw (le-leb 64 labels h)

  module _ (few : labels < 64) where
    pub label_unformed : well_formed (name_of file labels) ≡ false → label_kind file labels ≡ Refused 6
    unfolding label_kind
    label_unformed e = rw (lt-leb 64 labels few, e)

    pub label_carried : well_formed (name_of file labels) ≡ true → (i : ℕ) → label_named file labels (name_of file labels) ≡ Some i
        → label_kind file labels ≡ Refused 7
    unfolding label_kind
    label_carried e i found = rw (lt-leb 64 labels few, e, found)

    pub label_new : well_formed (name_of file labels) ≡ true → label_named file labels (name_of file labels) ≡ None
        → label_kind file labels ≡ Label (count_of file labels)
    unfolding label_kind
    label_new e found = rw (lt-leb 64 labels few, e, found)
