-- What `read_files` answers, and the policy with a roster's counts from it.
use Prim.Native.Nat.{ℕ, ◌*◌, ◌≤◌}
use mathlib.Core.Bool.{Bool, true, false}
use mathlib.Core.List.{List}
use mathlib.Core.Logic.{◌≢◌}
use mathlib.Core.Path.{◌≡◌, refl, sym, ap, ap₂, ◌∙◌}
use native.Mathlib.Omega.{arith}
use borrow.Author.Tests.{eq-eqb, ne_eqb, eqb-true, eqb-false}
use lib.Dec.{eqb}
use lib.ListN.{length}
use Rattle.buffers.specs.Handed.{refused_written, handed, handed_into, written_unless, buffer_unless}
use Rattle.buffers.specs.declared.Written.{Written}
use Rattle.lists.proofs.Tables.{get_d_listed}
use Rattle.lists.specs.Tables.{listed}
use Rattle.policy_file.proofs.Lawful.{lawful}
use Rattle.policy_file.proofs.Recounted.{recounted_same}
use Rattle.policy_file.proofs.Verdict.{bounds}
use Rattle.policy_file.specs.Counts.{recounted}
use Rattle.policy_file.specs.Whole.{policy_refusal, label_count, AcceptedPolicy, policy_of}
use Rattle.policy_file.specs.declared.Policy.{Policy}
use Rattle.roster_file.proofs.Stopping.{stop_placed}
use Rattle.roster_file.specs.Counts.{count_in, Placed}
use Rattle.roster_file.specs.Whole.{stop_of}
use Rattle.roster_file.specs.declared.Stop.{Stop}
use Rattle.weights.specs.Tables.{entries}
use Rattle.roster_answers.specs.Counted.{on_counted}
use Rattle.roster_answers.specs.RosterText.{roster_listing, roster_text}
use Rattle.roster_answers.specs.Standings.{standings_of, refused_standings, roster_read}
use Rattle.roster_answers.specs.Rostered.{roster_stop, files_refusal, AcceptedFiles, roster_of, counted_policy, refused_rostered, rostered_of}
use Rattle.roster_answers.specs.declared.Rostered.{Rostered}
use Rattle.roster_answers.specs.declared.Standings.{Standings}
use Rattle.roster_answers.proofs.Counted.{files_policy, files_roster, accepted_policy, on_refused}

-- the labels of every policy file, refused ones too
pub policy_few : (policy : List ℕ) {read : Policy} → read ≡ policy_of policy → read.labels ≤ 64
policy_few policy same = omega (arith, ap (λ (p : Policy). p.labels) same, (bounds policy).0)

pub policy_within : (policy : List ℕ) {read : Policy} → read ≡ policy_of policy → 12 * read.labels ≤ length policy
policy_within policy same = omega (arith, ap (λ (p : Policy). p.labels) same, (bounds policy).2)

module _ (policy roster : List ℕ) where
  rostered_refused : files_refusal policy roster ≢ 0 → rostered_of policy roster ≡ refused_rostered (files_refusal policy roster)
  unfolding rostered_of
  rostered_refused ne = rw (ne_eqb (files_refusal policy roster) 0 ne)

  rostered_accepted : AcceptedFiles policy roster → rostered_of policy roster ≡ record { refusal = 0; labels = label_count policy; roster = roster_of policy roster }
  unfolding rostered_of
  rostered_accepted ok = rw (eq-eqb (files_refusal policy roster) 0 ok)

  -- ---- from what the two readers answer

  module _ {read : Policy} (same : read ≡ policy_of policy) where
    pub read_refused : {r : Rostered} → r ≡ refused_rostered read.refusal → read.refusal ≢ 0 → r ≡ rostered_of policy roster
    read_refused e ne =
        let number : read.refusal ≡ policy_refusal policy = ap (λ (p : Policy). p.refusal) same in
        let files = files_policy policy roster (λ none. ne (number ∙ none)) in
        e ∙ ap refused_rostered (number ∙ sym files) ∙ sym (rostered_refused (λ none. ne (number ∙ sym files ∙ none)))

    module _ (none : read.refusal ≡ 0) {stop : Stop} (stops : stop ≡ stop_of policy read.labels roster) where
      ok : AcceptedPolicy policy
      ok = sym (ap (λ (p : Policy). p.refusal) same) ∙ none

      labels : read.labels ≡ label_count policy
      labels = ap (λ (p : Policy). p.labels) same

      at_stop : stop ≡ roster_stop policy roster
      at_stop = stops ∙ ap (λ (n : ℕ). stop_of policy n roster) labels

      number : stop.refusal ≡ files_refusal policy roster
      number = ap (λ (s : Stop). s.refusal) at_stop ∙ sym (files_roster policy roster ok)

      pub stop_refused : {r : Rostered} → r ≡ refused_rostered stop.refusal → stop.refusal ≢ 0 → r ≡ rostered_of policy roster
      stop_refused e ne = e ∙ ap refused_rostered number ∙ sym (rostered_refused (λ z. ne (number ∙ z)))

      pub both_read : stop.refusal ≡ 0 → ◌≡◌ {A = Rostered} (record { refusal = 0; labels = read.labels; roster = stop.roster }) (rostered_of policy roster)
      unfolding roster_of
      both_read end =
          ap₂ (λ (n : ℕ) (s : Stop). record { refusal = 0; labels = n; roster = s.roster }) labels at_stop
          ∙ sym (rostered_accepted (sym number ∙ end))

  -- ---- from what `read_files` answers

  module _ {read : Rostered} (same : read ≡ rostered_of policy roster) where
    pub rostered_number : read.refusal ≡ files_refusal policy roster
    rostered_number = go (eqb (files_refusal policy roster) 0) refl
      where
        go : (b : Bool) → eqb (files_refusal policy roster) 0 ≡ b → read.refusal ≡ files_refusal policy roster
        go true e =
            let ok = eqb-true (files_refusal policy roster) 0 e in
            ap (λ (r : Rostered). r.refusal) (same ∙ rostered_accepted ok) ∙ sym ok
        go false e = ap (λ (r : Rostered). r.refusal) (same ∙ rostered_refused (eqb-false (files_refusal policy roster) 0 e))

    -- an operation's own answer where a file is refused
    pub files_refused : {A : Type 0} (refused : ℕ → A) (answer : List ℕ → A) {r : A} → r ≡ refused read.refusal → read.refusal ≢ 0
        → r ≡ on_counted refused answer policy roster
    files_refused refused answer e ne =
        e ∙ ap refused rostered_number ∙ sym (on_refused policy roster refused answer (λ z. ne (rostered_number ∙ z)))

    -- the same for bytes that are handed out
    pub unless_no : {w : Written} → w ≡ refused_written read.refusal → read.refusal ≢ 0 → (t : List ℕ) (room : ℕ)
        → w ≡ written_unless (files_refusal policy roster) t room
    unfolding written_unless
    unless_no e ne t room =
        rw (ne_eqb (files_refusal policy roster) 0 (λ z. ne (rostered_number ∙ z))) (e ∙ ap refused_written rostered_number)

    pub unless_kept : read.refusal ≢ 0 → (t out : List ℕ) → out ≡ buffer_unless (files_refusal policy roster) t out
    unfolding buffer_unless
    unless_kept ne t out = rw (ne_eqb (files_refusal policy roster) 0 (λ z. ne (rostered_number ∙ z))) refl

    module _ (none : read.refusal ≡ 0) where
      pub files_accepted : AcceptedFiles policy roster
      files_accepted = sym rostered_number ∙ none

      pub rostered_labels : read.labels ≡ label_count policy
      rostered_labels = ap (λ (r : Rostered). r.labels) (same ∙ rostered_accepted files_accepted)

      pub rostered_roster : read.roster ≡ roster_of policy roster
      rostered_roster = ap (λ (r : Rostered). r.roster) (same ∙ rostered_accepted files_accepted)

      pub labels_few : read.labels ≤ 64
      labels_few = omega (arith, rostered_labels, (lawful policy (accepted_policy policy roster files_accepted)).few_labels)

      pub labels_within : 12 * read.labels ≤ length policy
      labels_within = omega (arith, rostered_labels, (lawful policy (accepted_policy policy roster files_accepted)).whole)

      -- the policy with these counts
      pub counts_put : {counts : List ℕ} → counts ≡ listed (count_in read.roster) 64
          → recounted policy (entries counts) read.labels ≡ counted_policy policy roster
      unfolding counted_policy
      counts_put {counts} e =
          recounted_same policy (entries counts) (count_in read.roster) read.labels
          (λ m h. ap (λ (t : List ℕ). entries t m) e ∙ get_d_listed (count_in read.roster) 64 m 0 (omega (arith, labels_few)))
          ∙ ap₂ (λ (n : ℕ) (count : ℕ → ℕ). recounted policy count n) rostered_labels (ap count_in rostered_roster)

      -- bytes that are handed out
      module _ {s t : List ℕ} (made : s ≡ t) where
        pub unless_given : (room : ℕ) {w : Written} → w ≡ handed s room → w ≡ written_unless (files_refusal policy roster) t room
        unfolding written_unless
        unless_given room e = rw (eq-eqb (files_refusal policy roster) 0 files_accepted) (e ∙ ap (λ (u : List ℕ). handed u room) made)

        pub unless_left : (out : List ℕ) {after : List ℕ} → after ≡ handed_into s out → after ≡ buffer_unless (files_refusal policy roster) t out
        unfolding buffer_unless
        unless_left out e = rw (eq-eqb (files_refusal policy roster) 0 files_accepted) (e ∙ ap (λ (u : List ℕ). handed_into u out) made)

      -- every account on a label is on one of the policy's
      pub accounts_placed : Placed read.labels read.roster
      unfolding roster_of
      accounts_placed = rw (rostered_labels, rostered_roster) (stop_placed policy (label_count policy) roster)

      pub listing_made : roster_listing policy read.labels read.roster ≡ roster_text policy roster
      unfolding roster_text
      listing_made = ap₂ (roster_listing policy) rostered_labels rostered_roster

      pub standings_read : standings_of read.labels read.roster ≡ roster_read policy roster
      unfolding roster_read
      standings_read = rw (eq-eqb (files_refusal policy roster) 0 files_accepted) (ap₂ standings_of rostered_labels rostered_roster)

    pub standings_refused : {r : Standings} → r ≡ refused_standings read.refusal → read.refusal ≢ 0 → r ≡ roster_read policy roster
    unfolding roster_read
    standings_refused e ne =
        rw (ne_eqb (files_refusal policy roster) 0 (λ z. ne (rostered_number ∙ z))) (e ∙ ap refused_standings rostered_number)
