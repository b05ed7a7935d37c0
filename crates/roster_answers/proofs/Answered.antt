-- What `issue_roster` answers, row by row.
use Prim.Native.Nat.{ℕ, ◌≤◌, ◌<◌}
use mathlib.Core.Bool.{Bool, true, false, false≢true}
use mathlib.Core.List.{List}
use mathlib.Core.Logic.{◌≢◌, ◌⊎◌, inl, inr}
use mathlib.Core.Path.{◌≡◌, refl, sym, ap, subst, ◌∙◌}
use native.Mathlib.Decide.{ℕ_discrete, dec_lt}
use native.Mathlib.Omega.{arith}
use lib.ListN.{length}
use Rattle.buffers.proofs.Unless.{unless_zeros, unless_unchanged}
use Rattle.buffers.specs.Handed.{wrote, refused_written, handed_into}
use Rattle.buffers.specs.declared.Written.{Written}
use Rattle.issuer_answers.proofs.Asked.{asked_either}
use Rattle.issuer_answers.proofs.By.{Refuses, by_13, by_number, by_left, by_16, by_kept, by_written}
use Rattle.issuer_answers.specs.Issue.{refusal_by, asked_envelope, issued_by, left_by}
use Rattle.issuer_answers.specs.Rows.{NoLabel, LabelOf}
use Rattle.roster_file.proofs.Counted.{stands_on_lem, stands_true, stands_false}
use Rattle.roster_file.specs.Counts.{stands_on}
use Rattle.roster_file.specs.Machine.{standing_of}
use Rattle.roster_file.specs.declared.Activity.TheVariants.{Active, Held}
use Rattle.roster_file.specs.declared.Activity.{Activity}
use Rattle.roster_file.specs.declared.Standing.TheVariants.{On}
use Rattle.roster_file.specs.declared.Standing.{Standing}
use Rattle.roster_answers.specs.Issue.{activity_refusal, standing_refusal, standing_issued, standing_after, roster_issued, roster_envelope_after}
use Rattle.roster_answers.specs.Rostered.{files_refusal, AcceptedFiles, roster_of, counted_policy}
use Rattle.roster_answers.specs.Rows.{RosterLabel, NotOn, RosterAccount, roster_envelope, RosterIssueAnswered, files, row_13, row_14, row_26, row_15, row_16, written}
use Rattle.roster_answers.proofs.Counted.{accepted_policy, on_refused, on_accepted}
use Rattle.roster_answers.proofs.Issue.{standing_14, standing_on, held_26, active_15, active_given}
use Rattle.roster_answers.proofs.Recounted.{counted_other, counted_label, counted_none}

module _ (policy roster name : List ℕ) (account : ℕ) (root : List ℕ) where
  abbrev counted : List ℕ
  counted = counted_policy policy roster

  abbrev number : ℕ → ℕ
  number = standing_refusal (standing_of (roster_of policy roster) account) root

  -- ---- from the answer on the policy with the roster's counts

  pub files_issued : 0 < files_refusal policy roster → (room : ℕ) → roster_issued policy roster name account root room ≡ refused_written (files_refusal policy roster)
  unfolding roster_issued
  files_issued bad room =
      on_refused policy roster refused_written (λ file. standing_issued file (standing_of (roster_of policy roster) account) name account root room) (λ e. omega arith)

  pub files_left : 0 < files_refusal policy roster → (out : List ℕ) → roster_envelope_after policy roster name account root out ≡ out
  unfolding roster_envelope_after
  files_left bad out =
      on_refused policy roster (λ n. out) (λ file. standing_after file (standing_of (roster_of policy roster) account) name account root out) (λ e. omega arith)

  module _ (ok : AcceptedFiles policy roster) where
    issued_on : (room : ℕ) → roster_issued policy roster name account root room ≡ issued_by counted name account root number room
    unfolding roster_issued standing_issued
    issued_on room = on_accepted policy roster refused_written (λ file. issued_by file name account root number room) ok

    left_on : (out : List ℕ) → roster_envelope_after policy roster name account root out ≡ left_by counted name account root number out
    unfolding roster_envelope_after standing_after
    left_on out = on_accepted policy roster (λ n. out) (λ file. left_by file name account root number out) ok

    by_row : {n : ℕ} → Refuses counted name account root number n → (room : ℕ) → roster_issued policy roster name account root room ≡ refused_written n
    by_row r room = issued_on room ∙ r.issues room

    pub roster_13 : NoLabel policy name → (room : ℕ) → roster_issued policy roster name account root room ≡ refused_written 13
    roster_13 none = by_row (by_13 counted name account root number (counted_other policy roster ok).accepted (counted_none policy roster ok name none))

  -- the label is found: a number there
  module _ {l : ℕ} (h : RosterLabel policy roster name l) where
    found : LabelOf counted name l
    found = counted_label policy roster h.accepted name h.label

    roster_number : {n : ℕ} → number l ≡ n → 0 < n → (room : ℕ) → roster_issued policy roster name account root room ≡ refused_written n
    roster_number e some = by_row h.accepted (by_number counted name account root number found e some)

    pub roster_14 : NotOn policy roster l account → (room : ℕ) → roster_issued policy roster name account root room ≡ refused_written 14
    unfolding stands_on
    roster_14 none =
        roster_number (standing_14 (standing_of (roster_of policy roster) account) root l (stands_false (roster_of policy roster) l account none)) (omega arith)

  module _ {l : ℕ} {activity : Activity} (h : RosterAccount policy roster name l account activity) where
    number_on : number l ≡ activity_refusal activity root
    number_on = ap (λ (s : Standing). standing_refusal s root l) h.stands ∙ standing_on root l activity

  module _ {l : ℕ} where
    pub roster_26 : RosterAccount policy roster name l account Held → (room : ℕ) → roster_issued policy roster name account root room ≡ refused_written 26
    roster_26 h = roster_number h.label (number_on h ∙ held_26 root) (omega arith)

    pub roster_15 : RosterAccount policy roster name l account Active → length root ≢ 32
        → (room : ℕ) → roster_issued policy roster name account root room ≡ refused_written 15
    roster_15 h ne = roster_number h.label (number_on h ∙ active_15 root ne) (omega arith)

    -- an active account and a root secret of 32 bytes: its envelope is handed out
    module _ (h : RosterAccount policy roster name l account Active) (whole : length root ≡ 32) where
      unrefused : number l ≡ 0
      unrefused = number_on h ∙ active_given root whole

      pub roster_left : (out : List ℕ) → roster_envelope_after policy roster name account root out ≡ handed_into (roster_envelope policy roster root l account) out
      roster_left out = left_on h.label.accepted out ∙ by_left counted name account root number (found h.label) unrefused out

      pub roster_16 : (room : ℕ) → room < length (roster_envelope policy roster root l account) → roster_issued policy roster name account root room ≡ refused_written 16
      roster_16 room short = issued_on h.label.accepted room ∙ by_16 counted name account root number (found h.label) unrefused room short

      pub roster_kept : (out : List ℕ) → length out < length (roster_envelope policy roster root l account) → roster_envelope_after policy roster name account root out ≡ out
      roster_kept out short = left_on h.label.accepted out ∙ by_kept counted name account root number (found h.label) unrefused out short

      pub roster_given : (room : ℕ) → length (roster_envelope policy roster root l account) ≤ room
          → roster_issued policy roster name account root room ≡ wrote (length (roster_envelope policy roster root l account))
      roster_given room fits = issued_on h.label.accepted room ∙ by_written counted name account root number (found h.label) unrefused room fits

  -- ---- a row that holds gives its number

  abbrev refusal : Written → ℕ
  refusal w = w.refusal

  pub roster_only : (room : ℕ) {n : ℕ} → RosterIssueAnswered policy roster name account root room n → (roster_issued policy roster name account root room).refusal ≡ n
  roster_only room (files bad) = ap refusal (files_issued bad room)
  roster_only room (row_13 ok none) = ap refusal (roster_13 ok none room)
  roster_only room (row_14 h none) = ap refusal (roster_14 h none room)
  roster_only room (row_26 h) = ap refusal (roster_26 h room)
  roster_only room (row_15 h ne) = ap refusal (roster_15 h ne room)
  roster_only room (row_16 h whole short) = ap refusal (roster_16 h whole room short)
  roster_only room (written h whole fits) = ap refusal (roster_given h whole room fits)

  -- ---- and one of the rows holds

  module _ (room : ℕ) where
    abbrev Answer : ℕ → Type 0
    Answer n = RosterIssueAnswered policy roster name account root room n

    some_row : (n : ℕ) × Answer n
    some_row = go (ℕ_discrete (files_refusal policy roster) 0)
      where
        room_says : (l : ℕ) → RosterAccount policy roster name l account Active → length root ≡ 32
            → Dec (room < length (roster_envelope policy roster root l account)) → (n : ℕ) × Answer n
        room_says l h whole (yes short) = (16, row_16 h whole short)
        room_says l h whole (no d) = (0, written h whole (omega arith))

        root_says : (l : ℕ) → RosterAccount policy roster name l account Active → Dec (length root ≡ 32) → (n : ℕ) × Answer n
        root_says l h (yes whole) = room_says l h whole (dec_lt room (length (roster_envelope policy roster root l account)))
        root_says l h (no ne) = (15, row_15 h ne)

        activity_says : (l : ℕ) → RosterLabel policy roster name l → (activity : Activity) → standing_of (roster_of policy roster) account ≡ On l activity → (n : ℕ) × Answer n
        activity_says l h Held e = (26, row_26 (record { label = h; stands = e }))
        activity_says l h Active e = root_says l (record { label = h; stands = e }) (ℕ_discrete (length root) 32)

        standing_says : (l : ℕ) → RosterLabel policy roster name l → (b : Bool) → stands_on (roster_of policy roster) l account ≡ b → (n : ℕ) × Answer n
        standing_says l h true e = let a = stands_on_lem (roster_of policy roster) l account e in activity_says l h a.0 a.1
        standing_says l h false e = (14, row_14 h (λ a. false≢true (sym e ∙ stands_true (roster_of policy roster) l account a)))

        asked_says : AcceptedFiles policy roster → ((l : ℕ) × LabelOf policy name l) ⊎ NoLabel policy name → (n : ℕ) × Answer n
        asked_says ok (inl h) = standing_says h.0 (record { accepted = ok; label = h.1 }) (stands_on (roster_of policy roster) h.0 account) refl
        asked_says ok (inr none) = (13, row_13 ok none)

        go : Dec (files_refusal policy roster ≡ 0) → (n : ℕ) × Answer n
        go (yes ok) = asked_says ok (asked_either policy name (accepted_policy policy roster ok))
        go (no ne) = (files_refusal policy roster, files (omega arith))

    pub roster_answered : RosterIssueAnswered policy roster name account root room (roster_issued policy roster name account root room).refusal
    roster_answered = subst Answer (sym (roster_only room some_row.1)) some_row.1

  -- ---- zeros beside a number, and the buffer as it was

  pub roster_zeros : (room : ℕ) → 0 < (roster_issued policy roster name account root room).refusal
      → roster_issued policy roster name account root room ≡ refused_written (roster_issued policy roster name account root room).refusal
  unfolding issued_by
  roster_zeros room = go (ℕ_discrete (files_refusal policy roster) 0)
    where
      Zeros : Written → Type 0
      Zeros w = 0 < w.refusal → w ≡ refused_written w.refusal

      go : Dec (files_refusal policy roster ≡ 0) → Zeros (roster_issued policy roster name account root room)
      go (yes ok) = subst Zeros (sym (issued_on ok room)) (unless_zeros (refusal_by counted name number) (asked_envelope counted name account root) room)
      go (no ne) = subst Zeros (sym (files_issued (omega arith) room)) (λ h. refl)

  pub roster_unchanged : (out : List ℕ) → 0 < (roster_issued policy roster name account root (length out)).refusal
      → roster_envelope_after policy roster name account root out ≡ out
  unfolding issued_by left_by
  roster_unchanged out some = go (ℕ_discrete (files_refusal policy roster) 0)
    where
      go : Dec (files_refusal policy roster ≡ 0) → roster_envelope_after policy roster name account root out ≡ out
      go (yes ok) =
          left_on ok out
          ∙ unless_unchanged (refusal_by counted name number) (asked_envelope counted name account root) out
          (subst (λ (w : Written). 0 < w.refusal) (issued_on ok (length out)) some)
      go (no ne) = files_left (omega arith) out
