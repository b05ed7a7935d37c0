-- What is made of the policy with a roster's counts, as an equation.
use Rattle.std.proofs.Common.{◌≡◌, ℕ, List, length, Bool, true, false, Result, Ok, Err, ◌∙◌, sym, ap, ap₂, refl}
use Rattle.std.specs.Borrow.{Bor, MutBor}
use Rattle.std.specs.Prelude.{MatchResult}
use denote.Param.Members.{Once}
use lib.Dec.{eqb}
use borrow.Author.Tests.{eqb-true, eqb-false}
use Rattle.buffers.specs.Handed.{refused_written}
use Rattle.buffers.specs.declared.Written.{Written}
use Rattle.roster_answers.proofs.Counted.{on_refused, on_accepted}
use Rattle.roster_answers.specs.Counted.{on_counted, left_on_counted}
use Rattle.roster_answers.specs.Rostered.{files_refusal}
use Rattle.rosters.specs.Counting.{Counting, Writing, WritingCounted}

-- an operation that answers so of each file, and what stands for its answer where the files are refused
pub counting_is : {A : Type 0} (refused : ℕ → A) (answer : List ℕ → A) {answers : List ℕ → A → Type 0} {policy roster : List ℕ} {r : Result A ℕ} {x : A}
    → Counting answers policy roster r → MatchResult r (λ a. x ≡ a) (λ n. x ≡ refused n)
    → ((file : List ℕ) (a : A) → answers file a → a ≡ answer file)
    → x ≡ on_counted refused answer policy roster
counting_is refused answer {policy = policy} {roster} {r = Ok a} {x} made told right =
    told ∙ right _ _ made.says.1 ∙ sym (on_accepted policy roster refused answer made.says.0)
counting_is refused answer {policy = policy} {roster} {r = Err n} {x} made told right =
    told ∙ ap refused made.says.1 ∙ sym (on_refused policy roster refused answer made.says.0)

-- an operation that writes so of each file and buffer
pub written_is : (written : List ℕ → ℕ → Written) (after : List ℕ → List ℕ → List ℕ)
    {F : Type 0} {g : Once F (Bor (List ℕ) × (MutBor (List ℕ) × Unit {0})) (Written × (MutBor (List ℕ) × Unit {0}))} {write : F}
    {policy roster old new : List ℕ} {answer : Written} → WritingCounted (Writing g write) policy roster old answer new
    → ((read : Bor (List ℕ)) (lent : MutBor (List ℕ)) (r : Written) (left : MutBor (List ℕ)) → g.post write (read, (lent, tt)) (r, (left, tt))
    → (r ≡ written read.now (length lent.now)) × (left.now ≡ after read.now lent.now))
    → (answer ≡ on_counted refused_written (λ file. written file (length old)) policy roster) × (new ≡ left_on_counted after policy roster old)
written_is written after {policy = policy} {roster} {old} {new} {answer} made right = go (eqb (files_refusal policy roster) 0) refl
  where
    go : (b : Bool) → eqb (files_refusal policy roster) 0 ≡ b
        → (answer ≡ on_counted refused_written (λ file. written file (length old)) policy roster) × (new ≡ left_on_counted after policy roster old)
    go true e =
        let ok = eqb-true (files_refusal policy roster) 0 e in
        let w = made.accepts ok in
        let done = right w.read w.lent answer w.left w.met in (
          done.0 ∙ ap₂ (λ (file buffer : List ℕ). written file (length buffer)) w.reads w.lends
              ∙ sym (on_accepted policy roster refused_written (λ (file : List ℕ). written file (length old)) ok),
          sym w.leaves ∙ done.1 ∙ ap₂ after w.reads w.lends ∙ sym (on_accepted policy roster (λ (n : ℕ). old) (λ (file : List ℕ). after file old) ok),
        )
    go false e =
        let ne = eqb-false (files_refusal policy roster) 0 e in
        let kept = made.refuses ne in (
          kept.0 ∙ sym (on_refused policy roster refused_written (λ (file : List ℕ). written file (length old)) ne),
          kept.1 ∙ sym (on_refused policy roster (λ (n : ℕ). old) (λ (file : List ℕ). after file old) ne),
        )
