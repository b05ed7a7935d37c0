-- Writes: of the same bytes said otherwise, and of three parts straight after each other.
use Prim.Native.Nat.{ℕ}
use mathlib.Core.List.{List, ◌++◌}
use mathlib.Core.Path.{◌≡◌, subst}
use Rattle.buffers.specs.Put.{Put}
use Rattle.buffers.proofs.Writes.{put_next}

pub put_as : {d e s t : List ℕ} {at r : ℕ} → s ≡ t → Put d e at s r → Put d e at t r
put_as {d} {e} {s} {t} {at} {r} same p = subst (λ (u : List ℕ). Put d e at u r) same p

pub put_three : {d e f g s t u : List ℕ} {at p q r : ℕ} → Put d e at s p → Put e f p t q → Put f g q u r → Put d g at (s ++ t ++ u) r
put_three a b c = put_next (put_next a b) c
