-- Laws of one record of a roster file: what it says by the tests that led there.
use Rattle.std.specs.Prelude.{Option, Some}
use Prim.Native.Nat.{ℕ, ◌-◌, ◌≤◌, ◌<◌}
use mathlib.Core.Bool.{true, false, cond}
use native.Mathlib.Decide.{dec_lt}
use lib.Dec.{ltb}
use Rattle.roster_file.specs.declared.Entry.{Entry}
use mathlib.Core.List.{List}
use mathlib.Core.Path.{◌≡◌, ap, sym, ◌∙◌}
use native.Mathlib.Omega.{arith}
use lib.ListN.{length}
use borrow.Author.Tests.{lt-ltb, le-ltb}
use Rattle.format.proofs.Search.{found_at}
use Rattle.format.specs.Bytes.{bytes_at, same_bytes}
use Rattle.format.specs.Marks.{JN, MV, HD, RL, WD}
use Rattle.policy_file.specs.File.{is_named, label_named}
use Rattle.roster_entry.specs.Short.{short_entry, Whole}
use Rattle.roster_file.specs.File.{number_in, name_in, target_in, marked_entry, entry_at}
use Rattle.roster_file.specs.declared.Entry.TheVariants.{Join, Move, Hold, Release, Withdraw, Refused}

-- a label that is found is one of those searched
pub label_below : (policy : List ℕ) (labels : ℕ) (name : List ℕ) (l : ℕ) → label_named policy labels name ≡ Some l → l < labels
unfolding label_named
label_below policy labels name l e = let at = found_at (is_named policy name) labels 0 l e in omega (arith, at.below)

-- the target, by what the search for its name found
pub target_is : (policy : List ℕ) (labels : ℕ) (file : List ℕ) (at : ℕ) (name : List ℕ) (f : Option ℕ) → name ≡ name_in file at → label_named policy labels name ≡ f
    → f ≡ target_in policy labels file at
unfolding target_in
target_is policy labels file at name f e g = sym g ∙ ap (λ (n : List ℕ). label_named policy labels n) e

-- a record, by what is read of it where it is whole
pub whole_is : (read : Entry) {size left : ℕ} {reads : Entry → Type 0} {entry : Entry} → Whole size left reads entry → ((e : Entry) → reads e → e ≡ read)
    → entry ≡ cond (ltb left size) (Refused 3) read
whole_is read {size} {left} {entry = entry} h right = go (dec_lt left size)
  where
    go : Dec (left < size) → entry ≡ cond (ltb left size) (Refused 3) read
    go (yes l) = rw (lt-ltb left size l) (h.missing l)
    go (no l) = let enough : size ≤ left = omega arith in rw (le-ltb left size enough) (right entry (h.whole enough))

module _ (file : List ℕ) (at left : ℕ) where
  abbrev mark : List ℕ
  mark = bytes_at file at 2

  -- the records without a name
  pub hold_read : same_bytes mark HD ≡ true → cond (ltb left 4) (Refused 3) (Hold (number_in file at)) ≡ short_entry file at left
  unfolding short_entry
  hold_read hd = rw hd

  pub release_read : same_bytes mark HD ≡ false → same_bytes mark RL ≡ true → cond (ltb left 4) (Refused 3) (Release (number_in file at)) ≡ short_entry file at left
  unfolding short_entry
  release_read hd rl = rw (hd, rl)

  module _ (hd : same_bytes mark HD ≡ false) (rl : same_bytes mark RL ≡ false) where
    pub withdraw_read : same_bytes mark WD ≡ true → cond (ltb left 4) (Refused 3) (Withdraw (number_in file at)) ≡ short_entry file at left
    unfolding short_entry
    withdraw_read wd = rw (hd, rl, wd)

    pub foreign : same_bytes mark WD ≡ false → Refused 2 ≡ short_entry file at left
    unfolding short_entry
    foreign wd = rw (hd, rl, wd)

  -- every record
  module _ (policy : List ℕ) (labels : ℕ) where
    pub join_read : same_bytes mark JN ≡ true
        → cond (ltb left 12) (Refused 3) (Join (number_in file at) (target_in policy labels file at)) ≡ marked_entry policy labels file at left
    unfolding marked_entry
    join_read jn = rw jn

    pub move_read : same_bytes mark JN ≡ false → same_bytes mark MV ≡ true
        → cond (ltb left 12) (Refused 3) (Move (number_in file at) (target_in policy labels file at)) ≡ marked_entry policy labels file at left
    unfolding marked_entry
    move_read jn mv = rw (jn, mv)

    pub unnamed_read : same_bytes mark JN ≡ false → same_bytes mark MV ≡ false → short_entry file at left ≡ marked_entry policy labels file at left
    unfolding marked_entry short_entry
    unnamed_read jn mv = rw (jn, mv)

module _ (policy : List ℕ) (labels : ℕ) (file : List ℕ) (at : ℕ) where
  pub entry_single : length file - at < 2 → Refused 2 ≡ entry_at policy labels file at
  unfolding entry_at
  entry_single h = rw (lt-ltb (length file - at) 2 h)

  pub entry_marked : 2 ≤ length file - at → marked_entry policy labels file at (length file - at) ≡ entry_at policy labels file at
  unfolding entry_at
  entry_marked h = rw (le-ltb (length file - at) 2 h)
