-- What was written into a buffer, replaced there by as many bytes.
use Prim.Native.Nat.{ℕ, ◌+◌, ◌-◌}
use mathlib.Core.List.{List, ◌++◌, append_assoc}
use mathlib.Core.Path.{◌≡◌, refl, sym, ap, ap₂, ◌∙◌}
use native.Mathlib.Omega.{arith}
use lib.ListN.{length, take, drop}
use lib.Seq.{length-take-le, take_at, drop_at}
use Rattle.buffers.specs.Put.{Put}
use Rattle.lists.specs.Buffer.{pasted}

module _ {d e s : List ℕ} {at r : ℕ} (p : Put d e at s r) where
  front_length : length (take at d) ≡ at
  front_length = length-take-le at d (omega (arith, p.fits))

  size : r - at ≡ length s
  size = omega (arith, p.behind)

  back : List ℕ
  back = drop (at + length s) d

  parts : e ≡ take at d ++ (s ++ drop (at + length s) d)
  unfolding pasted
  parts = p.written ∙ append_assoc (take at d) s (drop (at + length s) d)

  before : take at e ≡ take at d
  before = ap (take at) parts ∙ take_at (take at d) (s ++ drop (at + length s) d) at front_length

  behind : drop at e ≡ s ++ drop (at + length s) d
  behind = ap (drop at) parts ∙ drop_at (take at d) (s ++ drop (at + length s) d) at front_length

  -- the bytes that were written stand there
  pub put_part : take (r - at) (drop at e) ≡ s
  put_part = ap₂ take size behind ∙ take_at s (drop (at + length s) d) (length s) refl

  -- t in their place
  pub put_replaced : (t : List ℕ) → length t ≡ length s → Put d (take at e ++ (t ++ drop (r - at) (drop at e))) at t r
  unfolding pasted
  put_replaced t same = record {
    fits = omega (arith, p.fits);
    behind = omega (arith, p.behind);
    written =
        ap₂ (λ (a b : List ℕ). a ++ (t ++ b)) before (ap₂ drop size behind ∙ drop_at s (drop (at + length s) d) (length s) refl)
        ∙ sym (append_assoc (take at d) t (drop (at + length s) d))
        ∙ ap (λ (n : ℕ). take at d ++ t ++ drop (at + n) d) (sym same);
  }
