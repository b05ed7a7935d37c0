-- Demand 1 for roster files: for every policy, number of labels and byte string exactly one of "read" and "refused under a number from the list" holds, and
-- each number is given when its row says so and only then. The words are those of specs/Rows.antt.
use Prim.Native.Nat.{ℕ, ◌≤◌, ◌<◌}
use mathlib.Core.List.{List, Memᴰ}
use mathlib.Core.Logic.{◌↔◌, ◌⊎◌, inl, inr}
use mathlib.Core.Path.{◌≡◌, refl, sym, ap, ◌∙◌}
use native.Mathlib.Omega.{arith}
use lib.ListN.{length}
use Rattle.roster_file.proofs.Stopping.{read_stops, stops, stops_only}
use Rattle.roster_file.specs.Machine.{empty_roster}
use Rattle.roster_file.specs.Rows.{NoMark, CutShort, NotNew, NotThere, NotNamed, RefusedAt, row_2, row_3, row_24, row_25, row_13, roster_numbers, RosterPasses, start, Stops, refused_there_lem, ended_there, ReachedInRoster}
use Rattle.roster_file.specs.Whole.{stopped, read_from, stop_of}
use Rattle.roster_file.specs.declared.Roster.{Roster}
use Rattle.roster_file.specs.declared.Stop.{Stop}

module _ {policy : List ℕ} {labels : ℕ} {file : List ℕ} {at : ℕ} {roster : Roster} where
  -- the numbers of the rows
  pub row_some : {n : ℕ} → RefusedAt policy labels file at roster n → 0 < n
  row_some (row_2 r) = omega arith
  row_some (row_3 r) = omega arith
  row_some (row_24 r) = omega arith
  row_some (row_25 r) = omega arith
  row_some (row_13 r) = omega arith

  pub row_listed : {n : ℕ} → RefusedAt policy labels file at roster n → Memᴰ n roster_numbers
  row_listed (row_2 r) = Memᴰ.head refl
  row_listed (row_3 r) = Memᴰ.tail (Memᴰ.head refl)
  row_listed (row_13 r) = Memᴰ.tail (Memᴰ.tail (Memᴰ.head refl))
  row_listed (row_24 r) = Memᴰ.tail (Memᴰ.tail (Memᴰ.tail (Memᴰ.head refl)))
  row_listed (row_25 r) = Memᴰ.tail (Memᴰ.tail (Memᴰ.tail (Memᴰ.tail (Memᴰ.head refl))))

module _ (policy : List ℕ) (labels : ℕ) (file : List ℕ) where
  -- Each file has one stop, and it is what the words say.
  pub one_stop : (s : Stop) → (stop_of policy labels file ≡ s) ↔ Stops policy labels file s
  one_stop s = (λ e. rw e at (stops policy labels file), stops_only policy labels file)

  pub stops_agree : (s t : Stop) → Stops policy labels file s → Stops policy labels file t → s ≡ t
  stops_agree s t a b = sym (stops_only policy labels file a) ∙ stops_only policy labels file b

  -- a row, from its number and back
  module _ (n : ℕ) (Row : List ℕ → ℕ → List ℕ → ℕ → Roster → Type 0) (some : 0 < n)
      (row_of : (at : ℕ) (roster : Roster) → RefusedAt policy labels file at roster n → Row policy labels file at roster)
      (of_row : (at : ℕ) (roster : Roster) → Row policy labels file at roster → RefusedAt policy labels file at roster n) where
    refusal_row : ((stop_of policy labels file).refusal ≡ n) ↔ ReachedInRoster policy labels file Row
    refusal_row = (
      λ e. go (stops policy labels file) e,
      λ r. ap (λ (s : Stop). s.refusal) (stops_only policy labels file (refused_there_lem r.passes (of_row r.at r.roster r.row))),
    )
      where
        go : {s : Stop} → Stops policy labels file s → s.refusal ≡ n → ReachedInRoster policy labels file Row
        go (refused_there_lem {at} {roster = roster} before r) h = record { at = at; roster = roster; passes = before; row = row_of at roster (rw h at r) }
        go (ended_there before e) h = absurd (omega arith)

  -- "a single byte left .., or a mark not belonging to this file"
  pub refusal_2 : ((stop_of policy labels file).refusal ≡ 2) ↔ ReachedInRoster policy labels file NoMark
  refusal_2 = refusal_row 2 NoMark (omega arith) row (λ at roster r. row_2 r)
    where
      row : (at : ℕ) (roster : Roster) → RefusedAt policy labels file at roster 2 → NoMark policy labels file at roster
      row at roster (row_2 r) = r

  -- "record cut short"
  pub refusal_3 : ((stop_of policy labels file).refusal ≡ 3) ↔ ReachedInRoster policy labels file CutShort
  refusal_3 = refusal_row 3 CutShort (omega arith) row (λ at roster r. row_3 r)
    where
      row : (at : ℕ) (roster : Roster) → RefusedAt policy labels file at roster 3 → CutShort policy labels file at roster
      row at roster (row_3 r) = r

  -- "24: join with a number out of 1 to 4,096 or already used, even if withdrawn."
  pub refusal_24 : ((stop_of policy labels file).refusal ≡ 24) ↔ ReachedInRoster policy labels file NotNew
  refusal_24 = refusal_row 24 NotNew (omega arith) row (λ at roster r. row_24 r)
    where
      row : (at : ℕ) (roster : Roster) → RefusedAt policy labels file at roster 24 → NotNew policy labels file at roster
      row at roster (row_24 r) = r

  -- "25: other record for an account unknown or withdrawn."
  pub refusal_25 : ((stop_of policy labels file).refusal ≡ 25) ↔ ReachedInRoster policy labels file NotThere
  refusal_25 = refusal_row 25 NotThere (omega arith) row (λ at roster r. row_25 r)
    where
      row : (at : ℕ) (roster : Roster) → RefusedAt policy labels file at roster 25 → NotThere policy labels file at roster
      row at roster (row_25 r) = r

  -- 13, "name asked for is not in the policy": "Both follow 2 and 3 and precede 13."
  pub refusal_13 : ((stop_of policy labels file).refusal ≡ 13) ↔ ReachedInRoster policy labels file NotNamed
  refusal_13 = refusal_row 13 NotNamed (omega arith) row (λ at roster r. row_13 r)
    where
      row : (at : ℕ) (roster : Roster) → RefusedAt policy labels file at roster 13 → NotNamed policy labels file at roster
      row at roster (row_13 r) = r

  -- a file is read exactly when no record is refused up to its end, and then reading stops there
  pub accepted_iff : ((stop_of policy labels file).refusal ≡ 0) ↔ RosterPasses policy labels file (length file) (stop_of policy labels file).roster
  accepted_iff = (
    λ e. go (stops policy labels file) e,
    λ p. ap (λ (s : Stop). s.refusal) (stops_only policy labels file (ended_there p refl)),
  )
    where
      go : {s : Stop} → Stops policy labels file s → s.refusal ≡ 0 → RosterPasses policy labels file (length file) s.roster
      go (refused_there_lem before r) h = absurd (omega (arith, row_some r))
      go (ended_there before e) h = rw e at before

  pub accepted_stop : {roster : Roster} → RosterPasses policy labels file (length file) roster → stop_of policy labels file ≡ stopped 0 (length file) roster
  accepted_stop p = stops_only policy labels file (ended_there p refl)

  pub accepted_at : (stop_of policy labels file).refusal ≡ 0 → (stop_of policy labels file).at ≡ length file
  accepted_at e = ap (λ (s : Stop). s.at) (accepted_stop (accepted_iff.0 e))

  -- a file that is refused stops at a record before its end, with the roster as it was before that record
  pub refused_stop : 0 < (stop_of policy labels file).refusal
      → RosterPasses policy labels file (stop_of policy labels file).at (stop_of policy labels file).roster
      × RefusedAt policy labels file (stop_of policy labels file).at (stop_of policy labels file).roster (stop_of policy labels file).refusal
  refused_stop h = go (stops policy labels file) h
    where
      go : {s : Stop} → Stops policy labels file s → 0 < s.refusal
          → RosterPasses policy labels file s.at s.roster × RefusedAt policy labels file s.at s.roster s.refusal
      go (refused_there_lem before r) h = (before, r)
      go (ended_there before e) h = absurd (omega arith)

  -- Every file is read or refused under a number of the list.
  pub read_or_refused : ((stop_of policy labels file).refusal ≡ 0) ⊎ Memᴰ (stop_of policy labels file).refusal roster_numbers
  read_or_refused = go (stops policy labels file)
    where
      go : {s : Stop} → Stops policy labels file s → (s.refusal ≡ 0) ⊎ Memᴰ s.refusal roster_numbers
      go (refused_there_lem before r) = inr (row_listed r)
      go (ended_there before e) = inl refl

  -- The records that `stop_of` may read are enough: to allow more changes nothing.
  pub records_enough : (n : ℕ) → length file ≤ n → read_from n policy labels file 0 empty_roster ≡ stop_of policy labels file
  records_enough n h = sym (stops_only policy labels file (read_stops policy labels file n 0 empty_roster start (omega arith)))
