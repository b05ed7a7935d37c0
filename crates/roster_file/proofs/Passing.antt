-- What holds of a roster after records that pass, and where they stand.
use Prim.Native.Nat.{ℕ, suc, ◌+◌, ◌*◌, ◌≤◌, ◌<◌}
use mathlib.Core.List.{List}
use mathlib.Core.Path.{◌≡◌, sym, ap, ◌∙◌}
use native.Mathlib.Decide.{ℕ_discrete}
use native.Mathlib.Omega.{arith}
use lib.ListN.{length}
use Rattle.roster_file.proofs.Entries.{unmarked_left, short_left}
use Rattle.roster_file.proofs.Rosters.{on_known, on_withdrawn, on_label, on_in, standing_empty, empty_entries, alters_only}
use Rattle.roster_file.specs.Counts.{Placed}
use Rattle.roster_file.specs.File.{number_in}
use Rattle.roster_file.specs.Machine.{standing_of, with_standing}
use Rattle.roster_file.specs.Rows.{WholeOther, a_move, a_hold, a_release, a_withdrawal, InRange, out_of_range, already_used, join_nowhere, move_nowhere, RefusedAt, row_2, row_3, row_24, row_25, row_13, RecordAt, joins, moves, holds, releases, withdraws, Alters, RosterPasses, start, next}
use Rattle.roster_file.specs.declared.Activity.{Activity}
use Rattle.roster_file.specs.declared.Roster.{Roster}
use Rattle.roster_file.specs.declared.Standing.TheVariants.{On}
use Rattle.roster_file.specs.declared.Standing.{Standing}

-- a whole record has bytes
other_left : {file : List ℕ} {at : ℕ} → WholeOther file at → at < length file
other_left (a_move w) = omega (arith, w.whole)
other_left (a_hold w) = omega (arith, w.whole)
other_left (a_release w) = omega (arith, w.whole)
other_left (a_withdrawal w) = omega (arith, w.whole)

module _ {policy : List ℕ} {labels : ℕ} {file : List ℕ} {at : ℕ} {roster : Roster} where
  -- the number of a record that passes is in range
  pub record_in : {size : ℕ} {s : Standing} → RecordAt policy labels file at roster size s → InRange (number_in file at)
  record_in (joins w r e a) = r
  record_in (moves w e a) = on_in roster (number_in file at) e
  record_in (holds w e) = on_in roster (number_in file at) e
  record_in (releases w e) = on_in roster (number_in file at) e
  record_in (withdraws w e) = on_in roster (number_in file at) e

  -- a record that passes has 4 bytes at least, and they are in the file
  pub record_room : {size : ℕ} {s : Standing} → RecordAt policy labels file at roster size s → (4 ≤ size) × (at + size ≤ length file)
  record_room (joins w r e a) = omega (arith, w.whole)
  record_room (moves w e a) = omega (arith, w.whole)
  record_room (holds w e) = omega (arith, w.whole)
  record_room (releases w e) = omega (arith, w.whole)
  record_room (withdraws w e) = omega (arith, w.whole)

  -- a refused record has bytes too
  pub refused_left : {n : ℕ} → RefusedAt policy labels file at roster n → at < length file
  refused_left (row_2 r) = unmarked_left policy labels file at r
  refused_left (row_3 r) = short_left policy labels file at r
  refused_left (row_24 (out_of_range w r)) = omega (arith, w.whole)
  refused_left (row_24 (already_used w r)) = omega (arith, w.whole)
  refused_left (row_25 r) = other_left r.record_at_lem
  refused_left (row_13 (join_nowhere w r e n)) = omega (arith, w.whole)
  refused_left (row_13 (move_nowhere w e n)) = omega (arith, w.whole)

module _ {policy : List ℕ} {labels : ℕ} {file : List ℕ} where
  -- the array keeps its 4,096 entries
  pub passes_entries : {at : ℕ} {roster : Roster} → RosterPasses policy labels file at roster → length roster.accounts ≡ 4096
  passes_entries start = empty_entries
  passes_entries (next before r h) = h.entries

  -- the roster after a record is the one that the definition gives
  pub after_is : {at size : ℕ} {roster after : Roster} {s : Standing} → RosterPasses policy labels file at roster
      → RecordAt policy labels file at roster size s → Alters roster (number_in file at) s after → after ≡ with_standing roster (number_in file at) s
  after_is {at} {size} {roster} {after} {s} before r h = alters_only roster (number_in file at) s after (passes_entries before) (record_in r) h

  -- the records lie within the file; there are so many of them, and each has 4 bytes at least
  pub place_within : {at : ℕ} {roster : Roster} → RosterPasses policy labels file at roster → at ≤ length file
  place_within start = omega arith
  place_within (next before r h) = (record_room r).1

  abbrev pub records_of : {at : ℕ} {roster : Roster} → RosterPasses policy labels file at roster → ℕ
  records_of start = 0
  records_of (next before r h) = suc (records_of before)

  pub records_few : {at : ℕ} {roster : Roster} (p : RosterPasses policy labels file at roster) → 4 * records_of p ≤ at
  records_few start = omega arith
  records_few (next before r h) = omega (arith, records_few before, (record_room r).0)

  -- every account that is on a label is on one of the policy's labels
  sets_placed : {at size : ℕ} {roster : Roster} {s : Standing} → Placed labels roster → RecordAt policy labels file at roster size s
      → (l : ℕ) (activity : Activity) → s ≡ On l activity → l < labels
  sets_placed {at} placed (joins w r e a) l activity q = let same = on_label q in omega (arith, a.below)
  sets_placed {at} placed (moves w e a) l activity q = let same = on_label q in omega (arith, a.below)
  sets_placed {at} placed (holds {l = k} {activity = active} w e) l activity q = let same = on_label q in omega (arith, placed (number_in file at) k active e)
  sets_placed {at} placed (releases {l = k} {activity = active} w e) l activity q = let same = on_label q in omega (arith, placed (number_in file at) k active e)
  sets_placed {at} placed (withdraws w e) l activity q = absurd (on_withdrawn (sym q))

  pub passes_placed : {at : ℕ} {roster : Roster} → RosterPasses policy labels file at roster → Placed labels roster
  passes_placed start = λ number l activity e. absurd (on_known (sym e ∙ standing_empty number))
  passes_placed (next {at} {size} {roster} {after} {s} before r h) = λ number l activity e. go (passes_placed before) number l activity e (ℕ_discrete number (number_in file at))
    where
      go : Placed labels roster → (number l : ℕ) (activity : Activity) → standing_of after number ≡ On l activity → Dec (number ≡ number_in file at) → l < labels
      go placed number l activity e (yes q) = sets_placed placed r l activity (sym h.itself ∙ ap (standing_of after) (sym q) ∙ e)
      go placed number l activity e (no ne) = placed number l activity (sym (h.others number ne) ∙ e)
