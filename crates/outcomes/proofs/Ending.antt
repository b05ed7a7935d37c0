-- Which status goes with which kind of answer.
use Prim.Native.Nat.{ℕ, ◌<◌}
use mathlib.Core.Bool.{Bool, true, false, false≢true}
use mathlib.Core.List.{List}
use mathlib.Core.Logic.{◌≢◌, inl, inr}
use mathlib.Core.Path.{◌≡◌, refl, sym, ◌∙◌}
use native.Mathlib.Decide.{ℕ_discrete}
use native.Mathlib.Omega.{arith}
use lib.IntN.{pos}
use Rattle.std.proofs.Common.{subst}
use Rattle.decimals.proofs.Printed.{printed_accepted, printed_refused}
use Rattle.decimals.specs.Worded.{refused_text, printed_unless}
use Rattle.outcomes.specs.Status.{status_of, IsStatus, is_done, refusal_of, text_of, Said, Ends, Printed}
use Rattle.outcomes.specs.declared.Ended.{Ended}
use Rattle.outcomes.specs.declared.Ended.TheVariants.{Failed, Refused, Answered}

pub status_known : (e : Ended) → IsStatus (status_of e)
status_known Failed = inr (inr refl)
status_known (Refused number) = inr (inl refl)
status_known (Answered text) = inl refl

-- no value is both
pub not_both : {P : Type 0} {b : Bool} → b ≡ false → b ≡ true → P
not_both f t = absurd (false≢true (sym f ∙ t))

-- a call that did not fail answers or is refused as the operation does
pub status_fits : (refusal : ℕ) (text : List ℕ) (e : Ended) → Ends refusal text e → is_done e ≡ true
    → (refusal ≡ 0 → status_of e ≡ pos 0) × (refusal ≢ 0 → status_of e ≡ pos 1)
status_fits refusal text Failed h o = not_both refl o
status_fits refusal text (Refused number) h o = (λ z. absurd (omega (arith, h.0, h.1, z)), λ nz. refl)
status_fits refusal text (Answered answer) h o = (λ z. refl, λ nz. absurd (nz (sym h.0)))

-- one that failed ends with 2
pub status_failed : (e : Ended) → is_done e ≡ false → status_of e ≡ pos 2
status_failed Failed o = refl
status_failed (Refused number) o = not_both o refl
status_failed (Answered text) o = not_both o refl

-- a text that was said is any that it equals
pub said_as : (refusal : ℕ) {s t : List ℕ} (e : Ended) → s ≡ t → Said refusal s e → Said refusal t e
said_as refusal e same said = let P : List ℕ → Type 0 = λ text. Said refusal text e in subst P same said

-- what is so of a call that is to be printed, and of every failed call, is so of the call that was printed
pub printed_as : (P : Ended → Type 0) → ((x : Ended) → is_done x ≡ false → P x) → {e r : Ended} → Printed e r → P e → P r
printed_as P none {e} {r} same held = go (is_done r) refl
  where
    go : (done : Bool) → is_done r ≡ done → P r
    go false o = none r o
    go true o = rw (same o) held

-- a call that failed says whatever is asked of one that was done
pub said_none : (refusal : ℕ) (text : List ℕ) (e : Ended) → is_done e ≡ false → Said refusal text e
said_none refusal text Failed f = tt
said_none refusal text (Refused number) f = not_both f refl
said_none refusal text (Answered answer) f = not_both f refl

-- what is said of a call that was done is said
pub said_done : (refusal : ℕ) (text : List ℕ) (e : Ended) → (is_done e ≡ true → Said refusal text e) → Said refusal text e
said_done refusal text Failed said = tt
said_done refusal text (Refused number) said = said refl
said_done refusal text (Answered answer) said = said refl

-- what was printed was said
pub said_printed : (refusal : ℕ) (text : List ℕ) {e r : Ended} → Printed e r → Said refusal text e → Said refusal text r
said_printed refusal text = printed_as (Said refusal text) (said_none refusal text)

-- what is not refused says the answer
pub ends_said : (answer : List ℕ) (e : Ended) → Ends 0 answer e → Said 0 answer e
ends_said answer e ends = said_as 0 e (printed_accepted answer refl) ends

-- an answer has no refusal
pub said_unrefused : (text : List ℕ) (e : Ended) → Said 0 text e → refusal_of e ≡ 0
said_unrefused text Failed said = refl
said_unrefused text (Refused number) said = said.1
said_unrefused text (Answered answer) said = refl

module _ (refusal : ℕ) (answer : List ℕ) (e : Ended) where
  -- an answer, or a refusal, that was said is how the call of the operation ends
  pub ends_answered : refusal ≡ 0 → Said 0 answer e → Ends refusal answer e
  ends_answered z said =
      let P : ℕ → Type 0 = λ number. Said number answer e in
      said_as refusal e (sym (printed_accepted answer z)) (subst P (sym z) said)

  pub ends_refused : 0 < refusal → Said refusal (refused_text refusal) e → Ends refusal answer e
  ends_refused h said = said_as refusal e (sym (printed_refused answer h)) said

  -- with a refusal the answer does not matter
  pub ends_as : (due : List ℕ) → (refusal ≡ 0 → answer ≡ due) → Ends refusal answer e → Ends refusal due e
  ends_as due same ends = said_as refusal e (go (ℕ_discrete refusal 0)) ends
    where
      go : Dec (refusal ≡ 0) → printed_unless refusal answer ≡ printed_unless refusal due
      go (yes z) = printed_accepted answer z ∙ same z ∙ sym (printed_accepted due z)
      go (no ne) = let h : 0 < refusal = omega arith in printed_refused answer h ∙ sym (printed_refused due h)

-- a call that is refused says the line of its number
pub ends_refusing : (refusal : ℕ) (answer : List ℕ) (e : Ended) → Ends refusal answer e → is_done e ≡ true → refusal_of e ≢ 0
    → text_of e ≡ refused_text (refusal_of e)
ends_refusing refusal answer Failed ends ok nz = absurd (nz refl)
ends_refusing refusal answer (Refused number) ends ok nz = refl
ends_refusing refusal answer (Answered text) ends ok nz = absurd (nz refl)
