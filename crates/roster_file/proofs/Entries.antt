-- One record of a roster file as it is read: which it is by its mark and its bytes, and which label it names.
use Rattle.std.specs.Prelude.{None, Option, Some}
use Prim.Native.Nat.{ℕ, ◌≤◌, ◌<◌}
use mathlib.Core.Bool.{false}
use mathlib.Core.List.{List, [], ◌∷◌}
use mathlib.Core.Logic.{◌⊎◌, inl, inr}
use mathlib.Core.Path.{◌≡◌, refl, ap, ◌∙◌}
use native.Mathlib.Decide.{dec_lt, ℕ_discrete}
use native.Mathlib.Omega.{arith}
use borrow.Author.Tests.{lt-ltb, le-ltb}
use lib.ListN.{length, length-take, length-drop}
use Rattle.format.proofs.Bytes.{same_refl, differ}
use Rattle.format.proofs.Named.{NamedAt}
use Rattle.format.specs.Bytes.{same_bytes}
use Rattle.format.specs.Marks.{JN, MV, HD, RL, WD}
use Rattle.policy_file.proofs.Names.{name_at, name_none, name_found_lem, name_new}
use Rattle.policy_file.specs.File.{name_of, label_named}
use Rattle.roster_file.specs.File.{number_in, name_in, target_in, marked_entry, entry_at}
use Rattle.roster_file.specs.Rows.{bytes_left, mark_of, WholeJoin, WholeMove, WholeHold, WholeRelease, WholeWithdrawal, LabelWith, NoLabelWith, NoMark, single_byte, other_mark, CutShort, short_join, short_move, short_hold, short_release, short_withdrawal}
use Rattle.roster_file.specs.declared.Entry.TheVariants.{Join, Move, Hold, Release, Withdraw, Refused}
use Rattle.roster_file.specs.declared.Roster.{Roster}

-- ---- the mark

-- a mark takes two bytes
pub mark_room : (file : List ℕ) (at a b : ℕ) → mark_of file at ≡ a ∷ b ∷ [] → 2 ≤ bytes_left file at
mark_room file at a b e = omega (arith, simp (length-take, length-drop) at (ap length e))

-- the marks differ
differs : (same_bytes MV JN ≡ false) × (same_bytes HD JN ≡ false) × (same_bytes HD MV ≡ false) × (same_bytes RL JN ≡ false) × (same_bytes RL MV ≡ false)
    × (same_bytes RL HD ≡ false) × (same_bytes WD JN ≡ false) × (same_bytes WD MV ≡ false) × (same_bytes WD HD ≡ false) × (same_bytes WD RL ≡ false)
unfolding same_bytes
differs = (refl, refl, refl, refl, refl, refl, refl, refl, refl, refl)

module _ (policy : List ℕ) (labels : ℕ) (file : List ℕ) (at : ℕ) where
  marked : 2 ≤ bytes_left file at → entry_at policy labels file at ≡ marked_entry policy labels file at (bytes_left file at)
  unfolding entry_at
  marked h = rw (le-ltb (bytes_left file at) 2 h)

  -- ---- whole records

  pub entry_join : WholeJoin file at → entry_at policy labels file at ≡ Join (number_in file at) (target_in policy labels file at)
  unfolding marked_entry
  entry_join w = marked (omega (arith, w.whole)) ∙ rw (w.opens, same_refl JN, le-ltb (bytes_left file at) 12 w.whole)

  pub entry_move : WholeMove file at → entry_at policy labels file at ≡ Move (number_in file at) (target_in policy labels file at)
  unfolding marked_entry
  entry_move w = marked (omega (arith, w.whole)) ∙ rw (w.opens, differs.0, same_refl MV, le-ltb (bytes_left file at) 12 w.whole)

  pub entry_hold : WholeHold file at → entry_at policy labels file at ≡ Hold (number_in file at)
  unfolding marked_entry
  entry_hold w = marked (omega (arith, w.whole)) ∙ rw (w.opens, differs.1, differs.2, same_refl HD, le-ltb (bytes_left file at) 4 w.whole)

  pub entry_release : WholeRelease file at → entry_at policy labels file at ≡ Release (number_in file at)
  unfolding marked_entry
  entry_release w =
      marked (omega (arith, w.whole)) ∙ rw (w.opens, differs.3, differs.4, differs.5, same_refl RL, le-ltb (bytes_left file at) 4 w.whole)

  pub entry_withdrawal : WholeWithdrawal file at → entry_at policy labels file at ≡ Withdraw (number_in file at)
  unfolding marked_entry
  entry_withdrawal w =
      marked (omega (arith, w.whole))
      ∙ rw (w.opens, differs.6, differs.7, differs.8, differs.9, same_refl WD, le-ltb (bytes_left file at) 4 w.whole)

  -- ---- rows 2 and 3

  module _ {roster : Roster} where
    pub entry_unmarked : NoMark policy labels file at roster → entry_at policy labels file at ≡ Refused 2
    unfolding entry_at marked_entry
    entry_unmarked (single_byte e) = rw (lt-ltb (bytes_left file at) 2 (omega arith))
    entry_unmarked (other_mark h j m d r w) =
        marked h
        ∙ rw (differ (mark_of file at) JN j, differ (mark_of file at) MV m, differ (mark_of file at) HD d, differ (mark_of file at) RL r, differ (mark_of file at) WD w)

    pub entry_short : CutShort policy labels file at roster → entry_at policy labels file at ≡ Refused 3
    unfolding marked_entry
    entry_short (short_join m l) = marked (mark_room file at 74 78 m) ∙ rw (m, same_refl JN, lt-ltb (bytes_left file at) 12 l)
    entry_short (short_move m l) = marked (mark_room file at 77 86 m) ∙ rw (m, differs.0, same_refl MV, lt-ltb (bytes_left file at) 12 l)
    entry_short (short_hold m l) = marked (mark_room file at 72 68 m) ∙ rw (m, differs.1, differs.2, same_refl HD, lt-ltb (bytes_left file at) 4 l)
    entry_short (short_release m l) =
        marked (mark_room file at 82 76 m) ∙ rw (m, differs.3, differs.4, differs.5, same_refl RL, lt-ltb (bytes_left file at) 4 l)
    entry_short (short_withdrawal m l) =
        marked (mark_room file at 87 68 m)
        ∙ rw (m, differs.6, differs.7, differs.8, differs.9, same_refl WD, lt-ltb (bytes_left file at) 4 l)

    -- such a record has bytes
    pub unmarked_left : NoMark policy labels file at roster → at < length file
    unmarked_left (single_byte e) = omega arith
    unmarked_left (other_mark h j m d r w) = omega arith

    pub short_left : CutShort policy labels file at roster → at < length file
    short_left (short_join m l) = omega (arith, mark_room file at 74 78 m)
    short_left (short_move m l) = omega (arith, mark_room file at 77 86 m)
    short_left (short_hold m l) = omega (arith, mark_room file at 72 68 m)
    short_left (short_release m l) = omega (arith, mark_room file at 82 76 m)
    short_left (short_withdrawal m l) = omega (arith, mark_room file at 87 68 m)

-- ---- the name

module _ (policy : List ℕ) (labels : ℕ) (name : List ℕ) where
  pub label_unique : {l k : ℕ} → LabelWith policy labels name l → LabelWith policy labels name k → l ≡ k
  label_unique {l} {k} a b = go (ℕ_discrete l k) (dec_lt l k)
    where
      go : Dec (l ≡ k) → Dec (l < k) → l ≡ k
      go (yes e) d = e
      go (no n) (yes h) = absurd (b.first l h a.here)
      go (no n) (no h) = absurd (a.first k (omega arith) b.here)

  named_with : {k : ℕ} → NamedAt (name_of policy) name labels k → LabelWith policy labels name k
  named_with a = record { below = a.below; here = a.here; first = a.first }

  pub label? : ((l : ℕ) × LabelWith policy labels name l) ⊎ NoLabelWith policy labels name
  label? = go (label_named policy labels name) refl
    where
      go : (f : Option ℕ) → label_named policy labels name ≡ f → ((l : ℕ) × LabelWith policy labels name l) ⊎ NoLabelWith policy labels name
      go (Some k) e = inl (k, named_with (name_at policy name labels k e))
      go None e = inr (name_none policy name labels e)

  found_is : {l : ℕ} → LabelWith policy labels name l → label_named policy labels name ≡ Some l
  found_is {l} a =
      let f = name_found_lem policy name labels l a.below a.here in
      f.1 ∙ ap Some (label_unique (named_with (name_at policy name labels f.0 f.1)) a)

module _ (policy : List ℕ) (labels : ℕ) (file : List ℕ) (at : ℕ) where
  pub target_label : {l : ℕ} → LabelWith policy labels (name_in file at) l → target_in policy labels file at ≡ Some l
  unfolding target_in
  target_label a = found_is policy labels (name_in file at) a

  pub target_missing : NoLabelWith policy labels (name_in file at) → target_in policy labels file at ≡ None
  unfolding target_in
  target_missing h = name_new policy (name_in file at) labels h
