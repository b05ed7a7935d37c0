-- Where the reading of a roster file stops: `read_from` stops at the first refused record or at the file's end, and only there.
use Prim.Native.Nat.{ℕ, zero, suc, ◌+◌, ◌-◌, ◌≤◌, ◌<◌}
use mathlib.Core.List.{List}
use mathlib.Core.Path.{◌≡◌, refl, sym, ap, ap₂, ◌∙◌}
use native.Mathlib.Decide.{dec_lt}
use native.Mathlib.Omega.{arith}
use borrow.Author.Tests.{le-leb, lt-leb}
use lib.ListN.{length}
use Rattle.roster_file.proofs.Meaning.{entry, Meaning, refused, passed, refused_asked, record_asked_lem, record_size_lem, meaning}
use Rattle.roster_file.proofs.Passing.{record_in, record_room, refused_left, passes_entries, passes_placed, after_is, place_within, records_of, records_few}
use Rattle.roster_file.proofs.Rosters.{with_alters}
use Rattle.roster_file.specs.Counts.{Placed}
use Rattle.roster_file.specs.File.{number_in}
use Rattle.roster_file.specs.Machine.{empty_roster, with_standing, asked_of}
use Rattle.roster_file.specs.Rows.{RefusedAt, RecordAt, RosterPasses, start, next, Stops, refused_there_lem, ended_there}
use Rattle.roster_file.specs.Whole.{stopped, on_change, read_from, stop_of}
use Rattle.roster_file.specs.declared.Roster.{Roster}
use Rattle.roster_file.specs.declared.Standing.{Standing}
use Rattle.roster_file.specs.declared.Stop.{Stop}

module _ (policy : List ℕ) (labels : ℕ) (file : List ℕ) where
  -- one step: at the file's end, at a refused record, at a record that passes
  read_end : (n at : ℕ) (roster : Roster) → length file ≤ at → read_from n policy labels file at roster ≡ stopped 0 at roster
  unfolding read_from
  read_end zero at roster h = refl
  read_end (suc n) at roster h = rw (le-leb (length file) at h)

  read_record : (n at : ℕ) (roster : Roster) → at < length file → read_from (suc n) policy labels file at roster
      ≡ on_change (read_from n policy labels file) at roster (entry policy labels file at roster) (asked_of roster (entry policy labels file at roster))
  unfolding read_from
  read_record n at roster h = rw (lt-leb (length file) at h)

  read_refused : (n at : ℕ) (roster : Roster) {k : ℕ} → RefusedAt policy labels file at roster k → read_from (suc n) policy labels file at roster ≡ stopped k at roster
  read_refused n at roster r =
      read_record n at roster (refused_left r)
      ∙ ap (on_change (read_from n policy labels file) at roster (entry policy labels file at roster)) (refused_asked policy labels file at roster r)

  read_passed : (n at : ℕ) (roster : Roster) {size : ℕ} {s : Standing} → RecordAt policy labels file at roster size s
      → read_from (suc n) policy labels file at roster ≡ read_from n policy labels file (at + size) (with_standing roster (number_in file at) s)
  read_passed n at roster {size} {s} r =
      let q = record_size_lem policy labels file at roster r in
      read_record n at roster (omega (arith, record_room r)) ∙ rw (record_asked_lem policy labels file at roster r)
      (ap₂ (λ (k number : ℕ). read_from n policy labels file (at + k) (with_standing roster number s)) q.0 q.1)

  -- From the stop to words. The count that `read_from` may read never ends before the file: each record has bytes.
  pub read_stops : (n at : ℕ) (roster : Roster) → RosterPasses policy labels file at roster → length file ≤ n + at
      → Stops policy labels file (read_from n policy labels file at roster)
  read_stops zero at roster before h =
      rw (read_end zero at roster (omega arith)) (ended_there before (omega (arith, place_within before)))
  read_stops (suc n) at roster before h = go (read_stops n) (dec_lt at (length file))
    where
      by_record : ((a : ℕ) (r : Roster) → RosterPasses policy labels file a r → length file ≤ n + a → Stops policy labels file (read_from n policy labels file a r))
          → Meaning policy labels file at roster → Stops policy labels file (read_from (suc n) policy labels file at roster)
      by_record rest (refused r) = rw (read_refused n at roster r) (refused_there_lem before r)
      by_record rest (passed {size} {s} r) =
          rw (read_passed n at roster r)
          (rest (at + size) (with_standing roster (number_in file at) s)
          (next before r (with_alters roster (number_in file at) s (passes_entries before) (record_in r)))
          (omega (arith, (record_room r).0)))

      go : ((a : ℕ) (r : Roster) → RosterPasses policy labels file a r → length file ≤ n + a → Stops policy labels file (read_from n policy labels file a r))
          → Dec (at < length file) → Stops policy labels file (read_from (suc n) policy labels file at roster)
      go rest (yes l) = by_record rest (meaning policy labels file at roster l)
      go rest (no l) = rw (read_end (suc n) at roster (omega arith)) (ended_there before (omega (arith, place_within before)))

  pub stops : Stops policy labels file (stop_of policy labels file)
  unfolding stop_of
  stops = read_stops (length file) 0 empty_roster start (omega arith)

  -- From words to the stop: reading from the first record on comes to each record before which all pass.
  pub read_comes : {at : ℕ} {roster : Roster} (p : RosterPasses policy labels file at roster) (n : ℕ) → n + records_of p ≡ length file
      → stop_of policy labels file ≡ read_from n policy labels file at roster
  unfolding stop_of
  read_comes start n e = ap (λ (k : ℕ). read_from k policy labels file 0 empty_roster) (omega arith)
  read_comes (next {at} {size} {roster} before r h) n e =
      read_comes before (suc n) (omega arith) ∙ read_passed n at roster r ∙ ap (read_from n policy labels file (at + size)) (sym (after_is before r h))

  pub stops_only : {s : Stop} → Stops policy labels file s → stop_of policy labels file ≡ s
  stops_only (refused_there_lem {at} {n} {roster} before r) =
      read_comes before (suc (length file - suc (records_of before))) (omega (arith, records_few before, refused_left r))
      ∙ read_refused (length file - suc (records_of before)) at roster r
  stops_only (ended_there {at} {roster} before e) =
      read_comes before (length file - records_of before) (omega (arith, records_few before)) ∙ read_end (length file - records_of before) at roster (omega arith)

  -- whatever the file, its roster has 4,096 entries, and its accounts are on labels of the policy
  pub stop_entries : length (stop_of policy labels file).roster.accounts ≡ 4096
  stop_entries = go stops
    where
      go : {s : Stop} → Stops policy labels file s → length s.roster.accounts ≡ 4096
      go (refused_there_lem before r) = passes_entries before
      go (ended_there before e) = passes_entries before

  pub stop_placed : Placed labels (stop_of policy labels file).roster
  stop_placed = go stops
    where
      go : {s : Stop} → Stops policy labels file s → Placed labels s.roster
      go (refused_there_lem before r) = passes_placed before
      go (ended_there before e) = passes_placed before

  -- and reading stops within the file
  pub stop_within : (stop_of policy labels file).at ≤ length file
  stop_within = go stops
    where
      go : {s : Stop} → Stops policy labels file s → s.at ≤ length file
      go (refused_there_lem before r) = place_within before
      go (ended_there before e) = place_within before
