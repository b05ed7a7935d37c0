-- A call that ends by what was handed out into a buffer with room; any text.
use Prim.Native.Nat.{ℕ, ◌≤◌, ◌<◌}
use mathlib.Core.List.{List}
use mathlib.Core.Path.{◌≡◌, sym, ap, ◌∙◌}
use native.Mathlib.Decide.{ℕ_discrete}
use native.Mathlib.Omega.{arith}
use lib.ListN.{length, take}
use Rattle.buffers.proofs.Handed.{handed_put, unless_none, unless_refused, unless_into}
use Rattle.buffers.proofs.Unless.{unless_given}
use Rattle.buffers.proofs.Writes.{put_front}
use Rattle.buffers.specs.Handed.{written_unless, buffer_unless}
use Rattle.buffers.specs.declared.Written.{Written}
use Rattle.outcomes.proofs.Ending.{ends_as}
use Rattle.outcomes.specs.Status.{Ends}
use Rattle.outcomes.specs.declared.Ended.{Ended}

module _ (refusal : ℕ) (s out : List ℕ) (room : length s ≤ length out) {w : Written} (answer : w ≡ written_unless refusal s (length out)) where
  number : w.refusal ≡ refusal
  number = ap (λ (v : Written). v.refusal) answer ∙ go (ℕ_discrete refusal 0)
    where
      go : Dec (refusal ≡ 0) → (written_unless refusal s (length out)).refusal ≡ refusal
      go (yes none) = ap (λ (v : Written). v.refusal) (unless_given refusal none s (length out) room) ∙ sym none
      go (no ne) = let some : 0 < refusal = omega arith in ap (λ (v : Written). v.refusal) (unless_refused s (length out) some)

  pub written_ends : {after : List ℕ} → after ≡ buffer_unless refusal s out → (e : Ended) → Ends w.refusal (take w.length after) e → Ends refusal s e
  written_ends {after} left e ends = ends_as refusal (take w.length after) e s same (rw number at ends)
    where
      same : refusal ≡ 0 → take w.length after ≡ s
      same none = put_front (handed_put s out room (answer ∙ unless_none s (length out) none) (left ∙ unless_into s out none))
