-- What a call of `open` tells, by what was opened and what was saved.
use Prim.Native.Nat.{ℕ, ◌≤◌}
use mathlib.Core.List.{List, []}
use mathlib.Core.Path.{◌≡◌, sym, ap}
use lib.ListN.{length}
use Rattle.buffers.proofs.Unless.{unless_within}
use Rattle.buffers.specs.declared.Written.{Written}
use Rattle.lines.specs.Lines.{opened_text}
use Rattle.open_answers.specs.Open.{key_for, open_refusal, opened_of, text_after}
use Rattle.outcomes.proofs.Ending.{said_as, ends_answered, ends_as}
use Rattle.outcomes.specs.Status.{Said, Ends}
use Rattle.outcomes.specs.declared.Ended.{Ended}
use Rattle.sealed_file.specs.Sealed.{text_in}

-- by what `open` answered, for a buffer of 32,768 bytes
module _ (envelope file : List ℕ) (w : Written) (e : Ended) (same : w ≡ opened_of envelope file 32768) where
  abbrev OpenEnds : Written → Type 0
  OpenEnds v = Ends v.refusal (opened_text v.length) e

  pub open_refused : (w.refusal ≡ 0 → ⊥) → Ends w.refusal [] e → OpenEnds (opened_of envelope file 32768)
  open_refused nz ends = rw (← same) (ends_as w.refusal [] e _ (λ z. absurd (nz z)) ends)

  pub open_answered : w.refusal ≡ 0 → (text : List ℕ) → w.length ≡ length text → Said 0 (opened_text (length text)) e
      → OpenEnds (opened_of envelope file 32768)
  open_answered z text whole said = rw (← same) (ends_answered w.refusal _ e z (said_as 0 e (ap opened_text (sym whole)) said))

-- the length that is answered lies within the buffer
pub opened_within : (envelope file out : List ℕ) (w : Written) (after : List ℕ) → w ≡ opened_of envelope file (length out)
    → after ≡ text_after envelope file out → w.length ≤ length after
unfolding opened_of text_after
opened_within envelope file out w after e f =
    unless_within (open_refusal envelope file (length out)) (text_in (key_for envelope file) file) out w after e f
