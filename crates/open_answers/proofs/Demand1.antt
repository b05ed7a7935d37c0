-- "Given when, and only when reached": the number that `open` answers is that of the row that holds.
use Prim.Native.Nat.{ℕ, ◌≤◌, ◌<◌}
use mathlib.Core.List.{List}
use mathlib.Core.Logic.{◌↔◌, ◌≢◌}
use mathlib.Core.Path.{◌≡◌, sym, ap, subst, ◌∙◌}
use native.Mathlib.Omega.{arith}
use lib.ListN.{length}
use Rattle.buffers.proofs.Unless.{unless_zeros, unless_unchanged}
use Rattle.buffers.specs.Handed.{refused_written}
use Rattle.buffers.specs.declared.Written.{Written}
use Rattle.envelope_file.specs.Whole.{AcceptedEnvelope}
use Rattle.sealed_file.specs.Rows.{NotSealed}
use Rattle.sealed_file.specs.Sealed.{text_length, tag_in, tag_for, text_in}
use Rattle.open_answers.proofs.Answers.{row_holds, open_refused, open_given}
use Rattle.open_answers.specs.Open.{key_for, open_refusal, opened_of, text_after}
use Rattle.open_answers.specs.Rows.{Opens, OpenAnswered, envelopes, row_22, row_20, row_16, row_23, opened}

abbrev number : Written → ℕ
number w = w.refusal

module _ (envelope file : List ℕ) (room : ℕ) where
  pub open_only : {n : ℕ} → OpenAnswered envelope file room n → (opened_of envelope file room).refusal ≡ n
  open_only (envelopes bad) = ap number (open_refused envelope file room bad (envelopes bad))
  open_only (row_22 ok h) = ap number (open_refused envelope file room (omega arith) (row_22 ok h))
  open_only (row_20 ok h none) = ap number (open_refused envelope file room (omega arith) (row_20 ok h none))
  open_only (row_16 h short) = ap number (open_refused envelope file room (omega arith) (row_16 h short))
  open_only (row_23 h fits ne) = ap number (open_refused envelope file room (omega arith) (row_23 h fits ne))
  open_only (opened h fits e) = ap number (open_given envelope file room (opened h fits e) h.sealed fits)

  pub open_answered : OpenAnswered envelope file room (opened_of envelope file room).refusal
  open_answered = let h = row_holds envelope file room in subst (OpenAnswered envelope file room) (sym (open_only h.1)) h.1

  pub open_zeros : 0 < (opened_of envelope file room).refusal → opened_of envelope file room ≡ refused_written (opened_of envelope file room).refusal
  unfolding opened_of
  open_zeros = unless_zeros (open_refusal envelope file room) (text_in (key_for envelope file) file) room

  -- 22 with an envelope that is read, exactly for a file that is not sealed
  pub open_22 : AcceptedEnvelope envelope → ((opened_of envelope file room).refusal ≡ 22) ↔ NotSealed file
  open_22 ok = (λ e. go open_answered e, λ h. open_only (row_22 ok h))
    where
      go : {n : ℕ} → OpenAnswered envelope file room n → n ≡ 22 → NotSealed file
      go (envelopes bad) e = absurd (omega arith)
      go (row_22 _ h) e = h
      go (row_20 _ _ _) e = absurd (omega arith)
      go (row_16 _ _) e = absurd (omega arith)
      go (row_23 _ _ _) e = absurd (omega arith)
      go (opened _ _ _) e = absurd (omega arith)

  -- 23 where it is reached, exactly when the tag differs
  pub open_23 : Opens envelope file → text_length file ≤ room → ((opened_of envelope file room).refusal ≡ 23) ↔ (tag_in file ≢ tag_for (key_for envelope file) file)
  open_23 h fits = (λ e same. differs e same, λ ne. open_only (row_23 h fits ne))
    where
      differs : (opened_of envelope file room).refusal ≡ 23 → tag_in file ≡ tag_for (key_for envelope file) file → ⊥
      differs e same = let z : ◌≡◌ {A = ℕ} 0 23 = sym (open_only (opened h fits same)) ∙ e in omega arith

pub open_unchanged : (envelope file out : List ℕ) → 0 < (opened_of envelope file (length out)).refusal → text_after envelope file out ≡ out
unfolding opened_of text_after
open_unchanged envelope file out = unless_unchanged (open_refusal envelope file (length out)) (text_in (key_for envelope file) file) out
