-- The policy with a roster's counts, as it is written and used: what the operations with a roster are shown by.
use Prim.Native.Nat.{ℕ, ◌≤◌}
use mathlib.Core.Bool.{Bool, true, false}
use mathlib.Core.List.{List}
use mathlib.Core.Logic.{◌≢◌}
use mathlib.Core.Path.{◌≡◌, refl, sym, ap, ◌∙◌}
use native.Mathlib.Omega.{arith}
use borrow.Author.Tests.{eq-eqb, ne_eqb, eqb-true, eqb-false}
use lib.Dec.{eqb}
use lib.ListN.{length, take, replicate, length-replicate, length-take}
use Rattle.buffers.proofs.Handed.{room_handed, left_front}
use Rattle.buffers.specs.Handed.{wrote, refused_written, written_unless, buffer_unless}
use Rattle.buffers.specs.declared.Written.{Written}
use Rattle.policy_file.proofs.Lawful.{lawful}
use Rattle.policy_file.proofs.Recounted.{recounted_length}
use Rattle.policy_file.specs.Whole.{policy_refusal, label_count, AcceptedPolicy}
use Rattle.roster_answers.specs.Counted.{on_counted, counted_written, counted_after}
use Rattle.roster_answers.specs.Rostered.{roster_stop, files_refusal, AcceptedFiles, roster_count, counted_policy}

module _ (policy roster : List ℕ) where
  -- ---- which of the two is refused

  pub files_policy : policy_refusal policy ≢ 0 → files_refusal policy roster ≡ policy_refusal policy
  unfolding files_refusal
  files_policy ne = rw (ne_eqb (policy_refusal policy) 0 ne)

  pub files_roster : AcceptedPolicy policy → files_refusal policy roster ≡ (roster_stop policy roster).refusal
  unfolding files_refusal
  files_roster ok = rw (eq-eqb (policy_refusal policy) 0 ok)

  pub accepted_policy : AcceptedFiles policy roster → AcceptedPolicy policy
  accepted_policy ok = go (eqb (policy_refusal policy) 0) refl
    where
      go : (b : Bool) → eqb (policy_refusal policy) 0 ≡ b → AcceptedPolicy policy
      go true e = eqb-true (policy_refusal policy) 0 e
      go false e = let ne = eqb-false (policy_refusal policy) 0 e in sym (files_policy ne) ∙ ok

  -- ---- what is made of the policy with the roster's counts

  pub on_refused : {A : Type 0} (refused : ℕ → A) (answer : List ℕ → A) → files_refusal policy roster ≢ 0
      → on_counted refused answer policy roster ≡ refused (files_refusal policy roster)
  unfolding on_counted
  on_refused refused answer ne = rw (ne_eqb (files_refusal policy roster) 0 ne)

  pub on_accepted : {A : Type 0} (refused : ℕ → A) (answer : List ℕ → A) → AcceptedFiles policy roster
      → on_counted refused answer policy roster ≡ answer (counted_policy policy roster)
  unfolding on_counted
  on_accepted refused answer ok = rw (eq-eqb (files_refusal policy roster) 0 ok)

  -- ---- it is written into a buffer of 2,816 bytes, which always suffice

  pub counted_short : AcceptedFiles policy roster → length (counted_policy policy roster) ≤ 2816
  unfolding counted_policy
  counted_short ok =
      let law = lawful policy (accepted_policy ok) in
      omega (arith, law.whole, law.few_labels, law.few_pairs, recounted_length policy (roster_count policy roster) (label_count policy) (omega (arith, law.whole)))

  counted_handed : AcceptedFiles policy roster → (room : ℕ) → 2816 ≤ room → counted_written policy roster room ≡ wrote (length (counted_policy policy roster))
  unfolding counted_written written_unless
  counted_handed ok room h =
      rw (eq-eqb (files_refusal policy roster) 0 ok) (room_handed (counted_policy policy roster) room (omega (arith, counted_short ok)))

  counted_refused : files_refusal policy roster ≢ 0 → (room : ℕ) → counted_written policy roster room ≡ refused_written (files_refusal policy roster)
  unfolding counted_written written_unless
  counted_refused ne room = rw (ne_eqb (files_refusal policy roster) 0 ne)

  -- what was answered to an operation that lent such a buffer: the files' refusal, and the policy in the buffer's first bytes
  module _ {w : Written} (same : w ≡ counted_written policy roster 2816) where
    pub counted_number : w.refusal ≡ files_refusal policy roster
    counted_number = go (eqb (files_refusal policy roster) 0) refl
      where
        go : (b : Bool) → eqb (files_refusal policy roster) 0 ≡ b → w.refusal ≡ files_refusal policy roster
        go true e =
            let ok = eqb-true (files_refusal policy roster) 0 e in
            ap (λ (v : Written). v.refusal) (same ∙ counted_handed ok 2816 (omega arith)) ∙ sym ok
        go false e = ap (λ (v : Written). v.refusal) (same ∙ counted_refused (eqb-false (files_refusal policy roster) 0 e) 2816)

    -- the operation's own answer where a file is refused
    pub refused_on : {A : Type 0} (refused : ℕ → A) (answer : List ℕ → A) {r : A} → r ≡ refused w.refusal → w.refusal ≢ 0 → r ≡ on_counted refused answer policy roster
    refused_on refused answer e ne =
        e ∙ ap refused counted_number ∙ sym (on_refused refused answer (λ none. ne (counted_number ∙ none)))

    module _ (none : w.refusal ≡ 0) {after : List ℕ} (left : after ≡ counted_after policy roster (replicate 2816 0)) where
      accepted : AcceptedFiles policy roster
      accepted = sym counted_number ∙ none

      size : w.length ≡ length (counted_policy policy roster)
      size = ap (λ (v : Written). v.length) (same ∙ counted_handed accepted 2816 (omega arith))

      pub counted_front : take w.length after ≡ counted_policy policy roster
      unfolding counted_after buffer_unless
      counted_front =
          rw (size, left, eq-eqb (files_refusal policy roster) 0 accepted)
          (left_front (counted_policy policy roster) (replicate 2816 0) (omega (arith, counted_short accepted, length-replicate {A = ℕ} 2816 0)))

      pub front_size : w.length ≡ length (take w.length after)
      front_size = size ∙ sym (ap length counted_front)

      pub front_within : w.length ≤ length after
      front_within = omega (arith, front_size, length-take w.length after)

      -- and where both are accepted
      pub answered_on : {A : Type 0} (refused : ℕ → A) (answer : List ℕ → A) {r : A} → r ≡ answer (take w.length after) → r ≡ on_counted refused answer policy roster
      answered_on refused answer e = e ∙ ap answer counted_front ∙ sym (on_accepted refused answer accepted)
