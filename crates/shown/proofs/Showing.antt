-- Values as messages show them, and the loop that writes them.
use Prim.Native.Nat.{ℕ, suc, ◌+◌, ◌≤◌, ◌<◌}
use mathlib.Core.List.{List, [], ◌∷◌, ◌++◌}
use mathlib.Core.Path.{◌≡◌, refl, ap, ◌∙◌}
use native.Mathlib.Numerals.{add-one}
use native.Mathlib.Omega.{arith}
use lib.ListN.{length, take, get_or, set}
use lib.Seq.{take-suc, take_all}
use Rattle.buffers.proofs.Writes.{put_next, put_none}
use Rattle.buffers.specs.Handed.{wrote, refused_written, handed, handed_into}
use Rattle.buffers.specs.Put.{Put}
use Rattle.buffers.specs.declared.Written.{Written}
use Rattle.shown.specs.Shown.{shown_byte, shown}
use Rattle.buffers.proofs.Handing.{refused_handed, put_handed, put_one}

-- an escape, `A`, a space, `~`, a delete and a byte that is not ASCII
pub shown_example : shown (27 ∷ 65 ∷ 32 ∷ 126 ∷ 127 ∷ 195 ∷ []) ≡ 63 ∷ 65 ∷ 32 ∷ 126 ∷ 63 ∷ 195 ∷ []
unfolding shown
shown_example = refl

-- a byte each
pub shown_length : (s : List ℕ) → length (shown s) ≡ length s
unfolding shown
shown_length [] = refl
shown_length (b ∷ s) = ap suc (shown_length s)

shown_last : (s : List ℕ) (b : ℕ) → shown (s ++ (b ∷ [])) ≡ shown s ++ (shown_byte b ∷ [])
unfolding shown
shown_last [] b = refl
shown_last (a ∷ s) b = ap (λ (l : List ℕ). shown_byte a ∷ l) (shown_last s b)

-- the first i bytes are shown at the buffer's start
pub record Showing (value before after : List ℕ) (i : ℕ) : Type 0 where
  pub within : i ≤ length value
  pub put : Put before after 0 (shown (take i value)) i

module _ (value out : List ℕ) where
  pub showing_none : Showing value out out 0
  unfolding shown
  showing_none = record { within = omega arith; put = put_none out }

  pub showing_refused : {w : Written} → w ≡ refused_written 16 → length out < length value
      → (w ≡ handed (shown value) (length out)) × (out ≡ handed_into (shown value) out)
  showing_refused e h = refused_handed (shown value) out e (omega (arith, shown_length value))

  module _ (after : List ℕ) (i : ℕ) (showing : Showing value out after i) where
    pub showing_more : i < length value → i < length after → (byte : ℕ) → byte ≡ shown_byte (get_or value i 0)
        → Showing value out (set after i byte) (i + 1)
    showing_more h room byte e = record { within = omega arith; put = rw more (put_next showing.put (put_one after i byte room)) }
      where
        more : shown (take (i + 1) value) ≡ shown (take i value) ++ (byte ∷ [])
        more = rw (add-one i, take-suc value i 0 h, e) (shown_last (take i value) (get_or value i 0))

    pub showing_all : length value ≤ i → {w : Written} → w ≡ wrote (length value) → (w ≡ handed (shown value) (length out)) × (after ≡ handed_into (shown value) out)
    showing_all h e =
        let all : i ≡ length value = omega (arith, showing.within) in
        let r = put_handed (shown value) out (rw (take_all i value h) at showing.put) in
        (e ∙ rw (← all) r.0, r.1)
