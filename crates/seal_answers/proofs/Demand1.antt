-- "Given when, and only when reached": the number that `seal` answers is that of the row that holds.
use Prim.Native.Nat.{ℕ, ◌<◌}
use mathlib.Core.List.{List}
use mathlib.Core.Path.{◌≡◌, sym, ap, subst}
use native.Mathlib.Omega.{arith}
use Rattle.buffers.proofs.Unless.{unless_zeros}
use Rattle.buffers.specs.Handed.{refused_written}
use Rattle.buffers.specs.declared.Written.{Written}
use Rattle.seal_answers.proofs.Answers.{row_holds, seal_refused, seal_given}
use Rattle.seal_answers.specs.Rows.{SealAnswered, keys, row_22, row_16, written}
use Rattle.seal_answers.specs.Seal.{seal_refusal, label_sealed, sealed_of}

abbrev number : Written → ℕ
number w = w.refusal

module _ (policy name root nonce text : List ℕ) (room : ℕ) where
  pub seal_only : {n : ℕ} → SealAnswered policy name root nonce text room n → (sealed_of policy name root nonce text room).refusal ≡ n
  seal_only (keys some h) = ap number (seal_refused policy name root nonce text room some (keys some h))
  seal_only (row_22 k none) = ap number (seal_refused policy name root nonce text room (omega arith) (row_22 k none))
  seal_only (row_16 h short) = ap number (seal_refused policy name root nonce text room (omega arith) (row_16 h short))
  seal_only (written h fits) = ap number (seal_given policy name root nonce text room h fits)

  pub seal_answered : SealAnswered policy name root nonce text room (sealed_of policy name root nonce text room).refusal
  seal_answered = let h = row_holds policy name root nonce text room in subst (SealAnswered policy name root nonce text room) (sym (seal_only h.1)) h.1

  pub seal_zeros : 0 < (sealed_of policy name root nonce text room).refusal
      → sealed_of policy name root nonce text room ≡ refused_written (sealed_of policy name root nonce text room).refusal
  unfolding sealed_of
  seal_zeros = unless_zeros (seal_refusal policy name root nonce text) (label_sealed policy name root nonce text) room
