-- What a call of `seal` tells, by what was sealed and what was saved.
use Prim.Native.Nat.{ℕ, ◌≤◌}
use mathlib.Core.Bool.{Bool}
use mathlib.Core.List.{List, []}
use mathlib.Core.Path.{◌≡◌, sym, ap}
use lib.ListN.{length}
use Rattle.buffers.proofs.Unless.{unless_within}
use Rattle.buffers.specs.declared.Written.{Written}
use Rattle.fingerprint.specs.Fingerprint.{fingerprint_of}
use Rattle.lines.specs.Lines.{sealed_text}
use Rattle.outcomes.proofs.Ending.{said_as, ends_answered, ends_as}
use Rattle.outcomes.specs.Status.{Said, Ends}
use Rattle.outcomes.specs.declared.Ended.{Ended}
use Rattle.seal_answers.specs.Seal.{seal_refusal, label_sealed, sealed_of, file_after}

-- by what `seal` answered, for a buffer of 32,806 bytes
module _ (policy name root nonce text : List ℕ) (option : Bool) (w : Written) (e : Ended)
    (same : w ≡ sealed_of policy name root nonce text 32806) where
  abbrev SealEnds : Written → Type 0
  SealEnds v = Ends v.refusal (sealed_text v.length (fingerprint_of root).bytes option) e

  pub seal_refused : (w.refusal ≡ 0 → ⊥) → Ends w.refusal [] e → SealEnds (sealed_of policy name root nonce text 32806)
  seal_refused nz ends = rw (← same) (ends_as w.refusal [] e _ (λ z. absurd (nz z)) ends)

  pub seal_answered : w.refusal ≡ 0 → (file : List ℕ) → w.length ≡ length file
      → Said 0 (sealed_text (length file) (fingerprint_of root).bytes option) e → SealEnds (sealed_of policy name root nonce text 32806)
  seal_answered z file whole said =
      rw (← same)
      (ends_answered w.refusal _ e z (said_as 0 e (ap (λ (n : ℕ). sealed_text n (fingerprint_of root).bytes option) (sym whole)) said))

-- the length that is answered lies within the buffer
pub sealed_within : (policy name root nonce text out : List ℕ) (w : Written) (after : List ℕ) → w ≡ sealed_of policy name root nonce text (length out)
    → after ≡ file_after policy name root nonce text out → w.length ≤ length after
unfolding sealed_of file_after
sealed_within policy name root nonce text out w after e f =
    unless_within (seal_refusal policy name root nonce text) (label_sealed policy name root nonce text) out w after e f
