-- One record with the roster in hand: what `asked_of` says of it is what the rows say in words.
use Rattle.std.specs.Prelude.{None, Option, Some}
use Prim.Native.Nat.{ℕ, ◌≤◌, ◌<◌}
use mathlib.Core.Bool.{Bool, cond}
use mathlib.Core.List.{List}
use mathlib.Core.Logic.{◌⊎◌, inl, inr, ◌≢◌}
use mathlib.Core.Path.{◌≡◌, refl, sym, ap, ◌∙◌}
use native.Mathlib.Decide.{dec_le, ℕ_discrete}
use native.Mathlib.Omega.{arith}
use lib.ListN.{length}
use Rattle.format.proofs.Bytes.{same?}
use Rattle.format.specs.Marks.{JN, MV, HD, RL, WD}
use Rattle.roster_file.proofs.Entries.{entry_join, entry_move, entry_hold, entry_release, entry_withdrawal, entry_unmarked, entry_short, label?, target_label, target_missing}
use Rattle.roster_file.proofs.Rosters.{withdrawn_known, on_known, range?, number_in_lem, number_out, standing_out}
use Rattle.roster_file.specs.File.{number_in, name_in, target_in, entry_at, size_of}
use Rattle.roster_file.specs.Machine.{sets, refuses, joining, moving, standing_of, account_of, asking, asked_of}
use Rattle.roster_file.specs.Rows.{bytes_left, mark_of, WholeJoin, WholeMove, WholeHold, WholeRelease, WholeWithdrawal, WholeOther, a_move, a_hold, a_release, a_withdrawal, InRange, OutOfRange, LabelWith, NoLabelWith, single_byte, other_mark, short_join, short_move, short_hold, short_release, short_withdrawal, NotNew, out_of_range, already_used, NotThere, NotNamed, join_nowhere, move_nowhere, RefusedAt, row_2, row_3, row_24, row_25, row_13, RecordAt, joins, moves, holds, releases, withdraws}
use Rattle.roster_file.specs.declared.Activity.TheVariants.{Active}
use Rattle.roster_file.specs.declared.Activity.{Activity}
use Rattle.roster_file.specs.declared.Entry.TheVariants.{Join, Move, Hold, Release, Withdraw}
use Rattle.roster_file.specs.declared.Entry.{Entry}
use Rattle.roster_file.specs.declared.Roster.{Roster}
use Rattle.roster_file.specs.declared.Standing.TheVariants.{Unknown, Withdrawn, On}
use Rattle.roster_file.specs.declared.Standing.{Standing}

-- a join of a number that is out of range, whether or not a label has the name, and of one that is used already
pub join_out : (number : ℕ) (target : Option ℕ) → OutOfRange number → joining number target Unknown ≡ refuses 24
join_out number None r = ap (λ (t : Bool). cond t (refuses 13) (refuses 24)) (number_out number r)
join_out number (Some l) r = ap (λ (t : Bool). cond t (sets (On l Active)) (refuses 24)) (number_out number r)

pub join_used : (number : ℕ) (target : Option ℕ) (s : Standing) → s ≢ Unknown → joining number target s ≡ refuses 24
join_used number target Unknown ne = absurd (ne refl)
join_used number target Withdrawn ne = refl
join_used number target (On l activity) ne = refl

module _ (policy : List ℕ) (labels : ℕ) (file : List ℕ) (at : ℕ) (roster : Roster) where
  abbrev pub entry : Entry
  entry = entry_at policy labels file at

  abbrev pub number : ℕ
  number = number_in file at

  abbrev pub target : Option ℕ
  target = target_in policy labels file at

  abbrev pub stands : Standing
  stands = standing_of roster number

  -- what a record asks for, by what it is read as
  asked : (e : Entry) → entry ≡ e → (s : Standing) → standing_of roster (account_of e) ≡ s → asked_of roster entry ≡ asking e s
  unfolding asked_of
  asked e q s h = rw (q, h)

  -- ---- From words to the answer.

  not_new : NotNew policy labels file at roster → asked_of roster entry ≡ refuses 24
  not_new (out_of_range w r) =
      asked (Join number target) (entry_join policy labels file at w) Unknown (standing_out roster number r) ∙ join_out number target r
  not_new (already_used w ne) = asked (Join number target) (entry_join policy labels file at w) stands refl ∙ join_used number target stands ne

  not_there : NotThere policy labels file at roster → asked_of roster entry ≡ refuses 25
  not_there n = go n.record_at_lem n.gone
    where
      go : WholeOther file at → (stands ≡ Unknown) ⊎ (stands ≡ Withdrawn) → asked_of roster entry ≡ refuses 25
      go (a_move w) (inl e) = asked (Move number target) (entry_move policy labels file at w) Unknown e
      go (a_move w) (inr e) = asked (Move number target) (entry_move policy labels file at w) Withdrawn e
      go (a_hold w) (inl e) = asked (Hold number) (entry_hold policy labels file at w) Unknown e
      go (a_hold w) (inr e) = asked (Hold number) (entry_hold policy labels file at w) Withdrawn e
      go (a_release w) (inl e) = asked (Release number) (entry_release policy labels file at w) Unknown e
      go (a_release w) (inr e) = asked (Release number) (entry_release policy labels file at w) Withdrawn e
      go (a_withdrawal w) (inl e) = asked (Withdraw number) (entry_withdrawal policy labels file at w) Unknown e
      go (a_withdrawal w) (inr e) = asked (Withdraw number) (entry_withdrawal policy labels file at w) Withdrawn e

  not_named : NotNamed policy labels file at roster → asked_of roster entry ≡ refuses 13
  not_named (join_nowhere w r e n) =
      asked (Join number target) (entry_join policy labels file at w) Unknown e ∙ rw (number_in_lem number r, target_missing policy labels file at n)
  not_named (move_nowhere {l} {activity} w e n) =
      asked (Move number target) (entry_move policy labels file at w) (On l activity) e ∙ rw (target_missing policy labels file at n)

  pub refused_asked : {n : ℕ} → RefusedAt policy labels file at roster n → asked_of roster entry ≡ refuses n
  unfolding asked_of
  refused_asked (row_2 r) = rw (entry_unmarked policy labels file at r)
  refused_asked (row_3 r) = rw (entry_short policy labels file at r)
  refused_asked (row_24 r) = not_new r
  refused_asked (row_25 r) = not_there r
  refused_asked (row_13 r) = not_named r

  pub record_asked_lem : {size : ℕ} {s : Standing} → RecordAt policy labels file at roster size s → asked_of roster entry ≡ sets s
  record_asked_lem (joins w r e a) =
      asked (Join number target) (entry_join policy labels file at w) Unknown e ∙ rw (number_in_lem number r, target_label policy labels file at a)
  record_asked_lem (moves {m = m} {activity} w e a) =
      asked (Move number target) (entry_move policy labels file at w) (On m activity) e
      ∙ ap (λ (t : Option ℕ). moving t (On m activity)) (target_label policy labels file at a)
  record_asked_lem (holds {l} {activity} w e) = asked (Hold number) (entry_hold policy labels file at w) (On l activity) e
  record_asked_lem (releases {l} {activity} w e) = asked (Release number) (entry_release policy labels file at w) (On l activity) e
  record_asked_lem (withdraws {l} {activity} w e) = asked (Withdraw number) (entry_withdrawal policy labels file at w) (On l activity) e

  -- its bytes, and its account
  pub record_size_lem : {size : ℕ} {s : Standing} → RecordAt policy labels file at roster size s → (size_of entry ≡ size) × (account_of entry ≡ number)
  record_size_lem (joins w r e a) = let q = entry_join policy labels file at w in (ap size_of q, ap account_of q)
  record_size_lem (moves w e a) = let q = entry_move policy labels file at w in (ap size_of q, ap account_of q)
  record_size_lem (holds w e) = let q = entry_hold policy labels file at w in (ap size_of q, ap account_of q)
  record_size_lem (releases w e) = let q = entry_release policy labels file at w in (ap size_of q, ap account_of q)
  record_size_lem (withdraws w e) = let q = entry_withdrawal policy labels file at w in (ap size_of q, ap account_of q)

  -- ---- From the answer to words: every record before the file's end is refused by a row or passes.

  pub data Meaning : Type 0 where
    refused : {n : ℕ} → RefusedAt policy labels file at roster n → Meaning
    passed : {size : ℕ} {s : Standing} → RecordAt policy labels file at roster size s → Meaning

  read_join : WholeJoin file at → Meaning
  read_join w = go stands refl (range? number) (label? policy labels (name_in file at))
    where
      go : (s : Standing) → stands ≡ s → InRange number ⊎ OutOfRange number
          → ((l : ℕ) × LabelWith policy labels (name_in file at) l) ⊎ NoLabelWith policy labels (name_in file at) → Meaning
      go Unknown e (inr r) d = refused (row_24 (out_of_range w r))
      go Unknown e (inl r) (inl a) = passed (joins w r e a.1)
      go Unknown e (inl r) (inr n) = refused (row_13 (join_nowhere w r e n))
      go Withdrawn e r d = refused (row_24 (already_used w (λ q. withdrawn_known (sym e ∙ q))))
      go (On l activity) e r d = refused (row_24 (already_used w (λ q. on_known (sym e ∙ q))))

  -- a record that is no join is refused for an account that is not on a label; else it is what `live` says
  read_other : WholeOther file at → ((l : ℕ) (activity : Activity) → stands ≡ On l activity → Meaning) → Meaning
  read_other w live = go stands refl
    where
      go : (s : Standing) → stands ≡ s → Meaning
      go Unknown e = refused (row_25 record { record_at_lem = w; gone = inl e })
      go Withdrawn e = refused (row_25 record { record_at_lem = w; gone = inr e })
      go (On l activity) e = live l activity e

  read_move : WholeMove file at → Meaning
  read_move w = read_other (a_move w) (λ l activity e. go e (label? policy labels (name_in file at)))
    where
      go : {l : ℕ} {activity : Activity} → stands ≡ On l activity
          → ((l : ℕ) × LabelWith policy labels (name_in file at) l) ⊎ NoLabelWith policy labels (name_in file at) → Meaning
      go e (inl a) = passed (moves w e a.1)
      go e (inr n) = refused (row_13 (move_nowhere w e n))

  pub meaning : at < length file → Meaning
  meaning h = started (ℕ_discrete left 1)
    where
      left : ℕ
      left = bytes_left file at

      mark : List ℕ
      mark = mark_of file at

      by_mark : 2 ≤ left → Dec (12 ≤ left) → Dec (4 ≤ left) → Dec (mark ≡ JN) → Dec (mark ≡ MV) → Dec (mark ≡ HD) → Dec (mark ≡ RL) → Dec (mark ≡ WD) → Meaning
      by_mark some (yes room) r (yes e) m d l w = read_join (record { opens = e; whole = room })
      by_mark some (no short) r (yes e) m d l w = refused (row_3 (short_join e (omega arith)))
      by_mark some (yes room) r (no j) (yes e) d l w = read_move (record { opens = e; whole = room })
      by_mark some (no short) r (no j) (yes e) d l w = refused (row_3 (short_move e (omega arith)))
      by_mark some q (yes room) (no j) (no m) (yes e) l w =
          let hold : WholeHold file at = record { opens = e; whole = room } in
          read_other (a_hold hold) (λ l activity s. passed (holds hold s))
      by_mark some q (no short) (no j) (no m) (yes e) l w = refused (row_3 (short_hold e (omega arith)))
      by_mark some q (yes room) (no j) (no m) (no d) (yes e) w =
          let release : WholeRelease file at = record { opens = e; whole = room } in
          read_other (a_release release) (λ l activity s. passed (releases release s))
      by_mark some q (no short) (no j) (no m) (no d) (yes e) w = refused (row_3 (short_release e (omega arith)))
      by_mark some q (yes room) (no j) (no m) (no d) (no l) (yes e) =
          let withdrawal : WholeWithdrawal file at = record { opens = e; whole = room } in
          read_other (a_withdrawal withdrawal) (λ l activity s. passed (withdraws withdrawal s))
      by_mark some q (no short) (no j) (no m) (no d) (no l) (yes e) = refused (row_3 (short_withdrawal e (omega arith)))
      by_mark some q r (no j) (no m) (no d) (no l) (no w) = refused (row_2 (other_mark some j m d l w))

      started : Dec (left ≡ 1) → Meaning
      started (yes e) = refused (row_2 (single_byte e))
      started (no n) =
          by_mark (omega arith) (dec_le 12 left) (dec_le 4 left) (same? mark JN) (same? mark MV) (same? mark HD) (same? mark RL) (same? mark WD)
