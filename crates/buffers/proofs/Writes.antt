-- Laws of writes into a buffer.
use Prim.Native.Nat.{ℕ, ◌+◌, ◌≤◌}
use mathlib.Core.List.{List, [], ◌++◌, append-nil}
use mathlib.Core.Path.{◌≡◌, ap, ◌∙◌}
use native.Mathlib.Nat.{add-zero}
use native.Mathlib.Omega.{arith}
use lib.ListN.{length, take, drop, length-append, length-drop, take-append-drop}
use lib.Seq.{take_at, length-take-le}
use Rattle.lists.proofs.Pasted.{pasted_adjacent}
use Rattle.lists.specs.Buffer.{pasted}
use Rattle.buffers.specs.Put.{Put}

-- a write leaves the buffer's length
pub put_length : {d e s : List ℕ} {at r : ℕ} → Put d e at s r → length e ≡ length d
unfolding pasted
put_length {d} {e} {s} {at} {r} p =
    ap length p.written ∙ simp (length-append, length-drop) (omega (arith, length-take-le at d (omega (arith, p.fits)), p.fits))

-- two writes, the second straight after the first
pub put_next : {d e f s t : List ℕ} {at q r : ℕ} → Put d e at s q → Put e f q t r → Put d f at (s ++ t) r
put_next {d} {e} {f} {s} {t} {at} {q} {r} a b =
    let room : at + length s + length t ≤ length d = omega (arith, a.behind, b.fits, put_length a) in record {
      fits = omega (arith, length-append s t);
      behind = omega (arith, length-append s t, a.behind, b.behind);
      written = b.written ∙ rw (a.behind, a.written) (pasted_adjacent d at s t room);
    }

-- nothing written, anywhere and at the start
pub put_nothing : (d : List ℕ) (at : ℕ) → at ≤ length d → Put d d at [] at
unfolding pasted
put_nothing d at h = record { fits = omega arith; behind = omega arith; written = rw (append-nil, add-zero, take-append-drop) }

pub put_none : (d : List ℕ) → Put d d 0 [] 0
put_none d = put_nothing d 0 (omega arith)

-- what is written at the start stands there
pub put_front : {d e s : List ℕ} {r : ℕ} → Put d e 0 s r → take r e ≡ s
unfolding pasted
put_front {d} {e} {s} {r} p = rw (p.written, p.behind) (take_at s (drop (0 + length s) d) (0 + length s) (omega arith))
