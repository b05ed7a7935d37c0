-- How a call ended, and the exit status that a script sees.
use Rattle.std.specs.Prelude.{ℕ, ◌<◌, Bool, true, false, List, [], ◌⊎◌, ◌≡◌, ℤ, pos, take}
use Rattle.decimals.specs.Worded.{refused_text, printed_unless}
use Rattle.outcomes.specs.declared.Ended.{Ended}
use Rattle.outcomes.specs.declared.Ended.TheVariants.{Failed, Refused, Answered}

-- "0 an answer, 1 refused .., 2 a wrong call or a file that could not be read or written"
abbrev pub status_of : Ended → ℤ
status_of Failed = pos 2
status_of (Refused number) = pos 1
status_of (Answered text) = pos 0

-- these three, and no other
abbrev pub IsStatus : ℤ → Type 0
IsStatus r = (r ≡ pos 0) ⊎ (r ≡ pos 1) ⊎ (r ≡ pos 2)

-- whether a call was done, that is, refused or answered
abbrev pub is_done : Ended → Bool
is_done Failed = false
is_done (Refused number) = true
is_done (Answered text) = true

-- the number under which a call is refused, or 0
abbrev pub refusal_of : Ended → ℕ
refusal_of Failed = 0
refusal_of (Refused number) = number
refusal_of (Answered text) = 0

-- what a call says: nothing, the line of its number or its answer
abbrev pub text_of : Ended → List ℕ
text_of Failed = []
text_of (Refused number) = refused_text number
text_of (Answered text) = take text.length text.bytes

-- If the call was done, it ends with this refusal, or 0, and says this text.
abbrev pub Said : (refusal : ℕ) (text : List ℕ) → Ended → Type 0
Said refusal text Failed = Unit {0}
Said refusal text (Refused number) = (0 < number) × (number ≡ refusal) × (refused_text number ≡ text)
Said refusal text (Answered answer) = (0 ≡ refusal) × (take answer.length answer.bytes ≡ text)

-- a call whose operation refuses so, and answers this where it does not refuse: "an answer", or "`REFUSED n` on standard output"
abbrev pub Ends : (refusal : ℕ) (answer : List ℕ) → Ended → Type 0
Ends refusal answer e = Said refusal (printed_unless refusal answer) e

-- what printing leaves of a call: it ended as it was to end, or has failed
abbrev pub Printed : Ended → Ended → Type 0
Printed e r = is_done r ≡ true → r ≡ e
