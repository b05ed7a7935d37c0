-- What is written at a buffer's start, as bytes handed out.
use Prim.Native.Nat.{ℕ, ◌+◌, ◌≤◌, ◌<◌}
use mathlib.Core.List.{List, [], ◌∷◌}
use mathlib.Core.Path.{◌≡◌, refl, ap, ◌∙◌}
use native.Mathlib.Omega.{arith}
use lib.ListN.{length, set}
use Rattle.buffers.proofs.Handed.{handed_none, handed_room, left_none, left_room}
use Rattle.buffers.specs.Handed.{wrote, refused_written, handed, handed_into}
use Rattle.buffers.specs.Put.{Put}
use Rattle.buffers.specs.declared.Written.{Written}
use Rattle.lists.proofs.Pasted.{pasted_one}

module _ (s out : List ℕ) where
  pub refused_handed : {w : Written} → w ≡ refused_written 16 → length out < length s → (w ≡ handed s (length out)) × (out ≡ handed_into s out)
  refused_handed e h = (e ∙ handed_none s (length out) h, left_none s out h)

  pub put_handed : {after : List ℕ} {end : ℕ} → Put out after 0 s end → (wrote end ≡ handed s (length out)) × (after ≡ handed_into s out)
  put_handed {after} {end} p =
      let fits : length s ≤ length out = omega (arith, p.fits) in
      let size : end ≡ length s = omega (arith, p.behind) in
      (ap wrote size ∙ handed_room s (length out) fits, left_room s out fits p.written)

-- one byte
pub put_one : (d : List ℕ) (at a : ℕ) → at < length d → Put d (set d at a) at (a ∷ []) (at + 1)
put_one d at a h = record { fits = omega arith; behind = refl; written = pasted_one d at a (omega arith) }
