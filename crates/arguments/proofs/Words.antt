-- What `check::same` answers, as an equation; the words that ask for help.
use Prim.Native.Nat.{ℕ}
use mathlib.Core.Bool.{Bool, true, false, false≢true}
use mathlib.Core.List.{List}
use mathlib.Core.Logic.{◌↔◌, ⊎_elim, inr}
use mathlib.Core.Path.{◌≡◌, refl, sym, ◌∙◌}
use Rattle.format.proofs.Bytes.{same_true, differ}
use Rattle.format.specs.Bytes.{same_bytes}
use Rattle.arguments.specs.Asked.{help, long_help, short_help, AsksHelp}

pub same_answer : (a b : List ℕ) (r : Bool) → (r ≡ true → a ≡ b) → (a ≡ b → r ≡ true) → r ≡ same_bytes a b
same_answer a b true there back = sym (same_true a b (there refl))
same_answer a b false there back = sym (differ a b (λ e. false≢true (back e)))

-- what is typed was compared with `help` and `--help`, and with `-h` at last
pub asks_last : (typed word : List ℕ) (r : Bool) → (r ≡ true → typed ≡ word) → (typed ≡ word → r ≡ true)
    → (typed ≡ help → ⊥) → (typed ≡ long_help → ⊥) → word ≡ short_help → (r ≡ true) ↔ AsksHelp typed
asks_last typed word r there back first second e =
    (λ t. inr (inr (there t ∙ e)), ⊎_elim (λ w. absurd (first w)) (⊎_elim (λ w. absurd (second w)) (λ w. back (w ∙ sym e))))
