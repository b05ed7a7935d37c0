-- What is answered, and left in the buffer, by an operation that hands bytes out unless a refusal of its own comes before; stated once for
-- any refusal and any bytes.
use Prim.Native.Nat.{ℕ, ◌≤◌, ◌<◌}
use mathlib.Core.Bool.{Bool, true, false, cond}
use mathlib.Core.List.{List, ◌++◌}
use mathlib.Core.Logic.{◌↔◌}
use mathlib.Core.Path.{◌≡◌, refl, sym, ap, ◌∙◌}
use native.Mathlib.Decide.{ℕ_discrete}
use native.Mathlib.Nat.{zero-add}
use native.Mathlib.Omega.{arith}
use borrow.Author.Tests.{leb-true, leb-false}
use lib.Dec.{eqb, leb}
use lib.ListN.{length, drop}
use Rattle.lists.specs.Buffer.{pasted}
use Rattle.buffers.specs.Handed.{wrote, refused_written, handed, handed_into, written_unless, buffer_unless}
use Rattle.buffers.specs.declared.Written.{Written}
use Rattle.buffers.proofs.Handed.{room_handed, handed_within, unless_none, unless_refused, unless_into, unless_left}

-- with room: the answer is the length, and the bytes stand at the buffer's start with all after them as it was
module _ (refusal : ℕ) (none : refusal ≡ 0) (s : List ℕ) where
  pub unless_given : (room : ℕ) → length s ≤ room → written_unless refusal s room ≡ wrote (length s)
  unless_given room h = unless_none s room none ∙ room_handed s room h

  pub unless_filled : (out : List ℕ) → length s ≤ length out → buffer_unless refusal s out ≡ s ++ drop (length s) out
  unfolding handed_into pasted
  unless_filled out h = unless_into s out none ∙ go (leb (length s) (length out)) refl
    where
      go : (t : Bool) → leb (length s) (length out) ≡ t → cond t (pasted out 0 s) out ≡ s ++ drop (length s) out
      go true e = rw zero-add
      go false e = absurd (omega (arith, leb-false (length s) (length out) e))

  -- "buffer shorter": 16 exactly when there is no room
  pub unless_sixteen : (room : ℕ) → ((written_unless refusal s room).refusal ≡ 16) ↔ (room < length s)
  unfolding handed
  unless_sixteen room = rw (unless_none s room none) (go (leb (length s) room) refl)
    where
      go : (t : Bool) → leb (length s) room ≡ t → ((cond t (wrote (length s)) (refused_written 16)).refusal ≡ 16) ↔ (room < length s)
      go true e = (λ z. absurd (omega arith), λ h. absurd (omega (arith, leb-true (length s) room e)))
      go false e = (λ z. leb-false (length s) room e, λ h. refl)

module _ (refusal : ℕ) (s : List ℕ) where
  -- "With a refusal every number in the answer is 0"
  pub unless_zeros : (room : ℕ) → 0 < (written_unless refusal s room).refusal
      → written_unless refusal s room ≡ refused_written (written_unless refusal s room).refusal
  unfolding written_unless handed
  unless_zeros room = go (eqb refusal 0) (leb (length s) room)
    where
      answer : Bool → Bool → Written
      answer none fits = cond none (cond fits (wrote (length s)) (refused_written 16)) (refused_written refusal)

      go : (none fits : Bool) → 0 < (answer none fits).refusal → answer none fits ≡ refused_written (answer none fits).refusal
      go true true h = absurd (omega arith)
      go true false h = refl
      go false fits h = refl

  -- "lent buffers are unchanged"
  pub unless_unchanged : (out : List ℕ) → 0 < (written_unless refusal s (length out)).refusal → buffer_unless refusal s out ≡ out
  unfolding written_unless buffer_unless handed handed_into
  unless_unchanged out = go (eqb refusal 0) (leb (length s) (length out))
    where
      go : (none fits : Bool) → 0 < (cond none (cond fits (wrote (length s)) (refused_written 16)) (refused_written refusal)).refusal
          → cond none (cond fits (pasted out 0 s) out) out ≡ out
      go true true h = absurd (omega arith)
      go true false h = refl
      go false fits h = refl

  -- the length that is answered lies within the buffer
  pub unless_within : (out : List ℕ) (w : Written) (after : List ℕ) → w ≡ written_unless refusal s (length out) → after ≡ buffer_unless refusal s out
      → w.length ≤ length after
  unless_within out w after e f = go (ℕ_discrete refusal 0)
    where
      go : Dec (refusal ≡ 0) → w.length ≤ length after
      go (yes none) = handed_within s out w after (e ∙ unless_none s (length out) none) (f ∙ unless_into s out none)
      go (no ne) = let some : 0 < refusal = omega arith in rw (e, unless_refused s (length out) some) (omega arith)

-- from the refusal n that was found: the answer with it, and without one what was handed out
module _ {n refusal : ℕ} (same : n ≡ refusal) (s out : List ℕ) {w : Written} where
  pub answer_refused : 0 < n → w ≡ refused_written n → (w ≡ written_unless refusal s (length out)) × (out ≡ buffer_unless refusal s out)
  answer_refused h e =
      let some : 0 < refusal = omega arith in
      (e ∙ ap refused_written same ∙ sym (unless_refused s (length out) some), sym (unless_left s out some))

  pub answer_handed : n ≡ 0 → {after : List ℕ} → w ≡ handed s (length out) → after ≡ handed_into s out
      → (w ≡ written_unless refusal s (length out)) × (after ≡ buffer_unless refusal s out)
  answer_handed z e f =
      let none : refusal ≡ 0 = omega arith in
      (e ∙ sym (unless_none s (length out) none), f ∙ sym (unless_into s out none))
