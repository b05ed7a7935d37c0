-- Marks and places of the labels below a number, with one label more.
use Prim.Native.Nat.{ℕ, suc, ◌+◌, ◌≤◌, ◌<◌}
use mathlib.Core.Bool.{Bool, true, false}
use mathlib.Core.List.{List}
use mathlib.Core.Path.{◌≡◌, sym, ap, ap₂, ◌∙◌}
use mir.Val.{bool_byte}
use native.Mathlib.Numerals.{add-one}
use native.Mathlib.Omega.{arith}
use lib.ListN.{set}
use Rattle.lists.specs.Tables.{filled}
use Rattle.lists.proofs.Tables.{fill_more}
use Rattle.envelopes.specs.Envelope.{place_below}
use Rattle.envelopes.proofs.Places.{place_here, place_skip}

-- the marks are filled in from the front
pub mark_filled : (f : ℕ → Bool) (marks : List Bool) (n : ℕ) (mark : Bool) → marks ≡ filled 64 false f n → mark ≡ f n → n < 64
    → set marks n mark ≡ filled 64 false f (n + 1)
mark_filled f marks n mark e h l = ap₂ (λ (t : List Bool) (b : Bool). set t n b) e h ∙ fill_more f 64 false n l

module _ (le : ℕ → ℕ → Bool) (l m k : ℕ) (e : k ≡ place_below le l m) where
  -- the next label's place, label m being at or below l or not
  pub place_more : le m l ≡ true → k + 1 ≡ place_below le l (m + 1)
  place_more y = rw (add-one k, add-one m) (ap suc e ∙ sym (place_here le l m y))

  pub place_same : le m l ≡ false → k ≡ place_below le l (m + 1)
  place_same n = rw add-one (e ∙ sym (place_skip le l m n))

  -- the same by the table's entry
  pub place_next : (b : Bool) → le m l ≡ b → k + bool_byte b ≡ place_below le l (m + 1)
  place_next true y = place_more y
  place_next false n = let none : k + 0 ≡ k = omega arith in none ∙ place_same n

-- an entry counts at most 1
pub byte_small : (b : Bool) → bool_byte b ≤ 1
byte_small true = omega arith
byte_small false = omega arith
