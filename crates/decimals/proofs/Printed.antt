-- What a program prints, by the refusal; any answer.
use Prim.Native.Nat.{ℕ, ◌≤◌, ◌<◌}
use mathlib.Core.Bool.{Bool, true, false, cond}
use mathlib.Core.List.{List}
use mathlib.Core.Path.{◌≡◌}
use native.Mathlib.Omega.{arith}
use borrow.Author.Tests.{eq-eqb, ne_eqb}
use lib.Dec.{eqb}
use lib.ListN.{length}
use Rattle.decimals.specs.Worded.{refused_text, printed_unless}
use Rattle.decimals.proofs.Worded.{refused_short}

module _ {refusal : ℕ} (s : List ℕ) where
  pub printed_accepted : refusal ≡ 0 → printed_unless refusal s ≡ s
  unfolding printed_unless
  printed_accepted e = rw (eq-eqb refusal 0 e)

  pub printed_refused : 0 < refusal → printed_unless refusal s ≡ refused_text refusal
  unfolding printed_unless
  printed_refused h = rw (ne_eqb refusal 0 (λ (e : refusal ≡ 0). omega (arith, e, h)))

pub printed_short : (refusal : ℕ) (s : List ℕ) (room : ℕ) → 19 ≤ room → length s ≤ room → length (printed_unless refusal s) ≤ room
unfolding printed_unless
printed_short refusal s room least h = go (eqb refusal 0)
  where
    go : (accepted : Bool) → length (cond accepted s (refused_text refusal)) ≤ room
    go true = h
    go false = omega (arith, refused_short refusal)
