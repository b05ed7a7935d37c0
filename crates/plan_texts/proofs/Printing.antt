-- A program asks for the text of a policy, and where that is refused writes the line that says so. Stated for any text of an accepted policy.
use Prim.Native.Nat.{ℕ, ◌≤◌, ◌<◌}
use mathlib.Core.List.{List}
use mathlib.Core.Path.{◌≡◌, ap, ◌∙◌}
use native.Mathlib.Decide.{ℕ_discrete}
use native.Mathlib.Omega.{arith}
use lib.ListN.{length}
use Rattle.buffers.proofs.Handed.{handed_put, unless_none, unless_refused, unless_into, unless_left}
use Rattle.buffers.proofs.Unless.{unless_given}
use Rattle.buffers.specs.Handed.{handed, handed_into, written_unless, buffer_unless}
use Rattle.buffers.specs.Put.{Put}
use Rattle.buffers.specs.declared.Written.{Written}
use Rattle.decimals.proofs.Printed.{printed_accepted, printed_refused}
use Rattle.decimals.proofs.Worded.{refused_short}
use Rattle.decimals.specs.Worded.{refused_text, printed_unless}

module _ (refusal : ℕ) (s out : List ℕ) (room : length s ≤ length out) {w : Written} {mid : List ℕ}
    (answer : w ≡ written_unless refusal s (length out)) (left : mid ≡ buffer_unless refusal s out) where
  number : 0 < refusal → w.refusal ≡ refusal
  number h = ap (λ (v : Written). v.refusal) (answer ∙ unless_refused s (length out) h)

  pub print_accepted : w.refusal ≡ 0 → Put out mid 0 (printed_unless refusal s) w.length
  print_accepted z = go (ℕ_discrete refusal 0)
    where
      go : Dec (refusal ≡ 0) → Put out mid 0 (printed_unless refusal s) w.length
      go (yes e) = rw (printed_accepted s e) (handed_put s out room (answer ∙ unless_none s (length out) e) (left ∙ unless_into s out e))
      go (no ne) = absurd (omega (arith, number (omega arith)))

  pub print_refused : (w.refusal ≡ 0 → ⊥) → 19 ≤ length out → {v : Written} {after : List ℕ}
      → v ≡ handed (refused_text w.refusal) (length mid) → after ≡ handed_into (refused_text w.refusal) mid
      → Put out after 0 (printed_unless refusal s) v.length
  print_refused nz least {v} {after} e f = go (ℕ_discrete refusal 0)
    where
      go : Dec (refusal ≡ 0) → Put out after 0 (printed_unless refusal s) v.length
      go (yes z) = absurd (nz (ap (λ (u : Written). u.refusal) (answer ∙ unless_given refusal z s (length out) room)))
      go (no ne) =
          let some : 0 < refusal = omega arith in
          let same : mid ≡ out = left ∙ unless_left s out some in
          rw (printed_refused s some)
          (handed_put (refused_text refusal) out (omega (arith, refused_short refusal)) (rw (number some, same) at e) (rw (number some, same) at f))
