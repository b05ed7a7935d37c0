-- What a call of `issue` tells, by what was issued and what was saved.
use Prim.Native.Nat.{ℕ}
use mathlib.Core.Bool.{Bool}
use mathlib.Core.List.{List, []}
use mathlib.Core.Path.{◌≡◌, sym, ap}
use lib.ListN.{length}
use Rattle.buffers.specs.declared.Written.{Written}
use Rattle.fingerprint.specs.Fingerprint.{fingerprint_of}
use Rattle.issuer_answers.specs.Issue.{issued_of}
use Rattle.lines.specs.Lines.{issued_text}
use Rattle.outcomes.proofs.Ending.{said_as, ends_answered, ends_as}
use Rattle.outcomes.specs.Status.{Said, Ends}
use Rattle.outcomes.specs.declared.Ended.{Ended}

-- by what `issue` answered, for a buffer of 4,096 bytes
module _ (policy name : List ℕ) (account : ℕ) (root : List ℕ) (option : Bool) (w : Written) (e : Ended)
    (same : w ≡ issued_of policy name account root 4096) where
  abbrev IssueEnds : Written → Type 0
  IssueEnds v = Ends v.refusal (issued_text v.length (fingerprint_of root).bytes option) e

  pub issue_refused : (w.refusal ≡ 0 → ⊥) → Ends w.refusal [] e → IssueEnds (issued_of policy name account root 4096)
  issue_refused nz ends = rw (← same) (ends_as w.refusal [] e _ (λ z. absurd (nz z)) ends)

  pub issue_answered : w.refusal ≡ 0 → (envelope : List ℕ) → w.length ≡ length envelope
      → Said 0 (issued_text (length envelope) (fingerprint_of root).bytes option) e → IssueEnds (issued_of policy name account root 4096)
  issue_answered z envelope whole said =
      rw (← same)
      (ends_answered w.refusal _ e z (said_as 0 e (ap (λ (n : ℕ). issued_text n (fingerprint_of root).bytes option) (sym whole)) said))
