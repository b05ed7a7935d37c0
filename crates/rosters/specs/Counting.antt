-- What is made of the policy with a roster's counts.
use Rattle.std.specs.Prelude.{◌≡◌, ◌≢◌, ℕ, List, Result, MatchResult}
use Rattle.std.specs.Borrow.{Bor, MutBor}
use denote.Param.Members.{Once}
use Rattle.buffers.specs.Handed.{refused_written}
use Rattle.buffers.specs.declared.Written.{Written}
use Rattle.roster_answers.specs.Rostered.{files_refusal, AcceptedFiles, counted_policy}

-- an operation's answer to that policy, or the number that the two files are refused under
pub record Counting {A : Type 0} (answers : List ℕ → A → Type 0) (policy roster : List ℕ) (made : Result A ℕ) : Type 0 where
  pub says : MatchResult made
      (λ a. AcceptedFiles policy roster × answers (counted_policy policy roster) a)
      (λ number. (files_refusal policy roster ≢ 0) × (number ≡ files_refusal policy roster))

-- an operation on a file that writes into a buffer answers this, and leaves the buffer so
pub record Writing {F : Type 0} (g : Once F (Bor (List ℕ) × (MutBor (List ℕ) × Unit {0})) (Written × (MutBor (List ℕ) × Unit {0}))) (write : F)
    (file old : List ℕ) (answer : Written) (new : List ℕ) : Type 0 where
  pub read : Bor (List ℕ)
  pub reads : read.now ≡ file
  pub lent : MutBor (List ℕ)
  pub lends : lent.now ≡ old
  pub left : MutBor (List ℕ)
  pub leaves : left.now ≡ new
  pub met : g.post write (read, (lent, tt)) (answer, (left, tt))

-- what such an operation does with that policy; a refusal leaves the buffer as it was
pub record WritingCounted (writes : List ℕ → List ℕ → Written → List ℕ → Type 0) (policy roster old : List ℕ) (answer : Written) (new : List ℕ) : Type 0 where
  pub refuses : files_refusal policy roster ≢ 0 → (answer ≡ refused_written (files_refusal policy roster)) × (new ≡ old)
  pub accepts : AcceptedFiles policy roster → writes (counted_policy policy roster) old answer new
