-- Bytes as hexadecimal digits, and the loop that writes them.
use Prim.Native.Nat.{ℕ, ◌+◌, ◌*◌, ◌/◌, ◌≤◌, ◌<◌}
use mathlib.Core.List.{List, [], ◌∷◌, ◌++◌}
use mathlib.Core.Path.{◌≡◌, refl, ap}
use native.Mathlib.Numerals.{add-one}
use native.Mathlib.Omega.{arith}
use lib.ListN.{length, take, get_or}
use lib.Seq.{take-suc, take_all, length-take-le}
use Rattle.buffers.proofs.Writes.{put_next, put_length, put_none}
use Rattle.buffers.specs.Handed.{wrote, refused_written, handed, handed_into}
use Rattle.buffers.specs.Put.{Put}
use Rattle.buffers.specs.declared.Written.{Written}
use Rattle.hexadecimal.specs.Hex.{hex_byte, hex_of}
use Rattle.buffers.proofs.Handing.{refused_handed, put_handed}

-- the bytes 9, 10 and 175 are `090aaf`
pub hex_examples : hex_of (9 ∷ 10 ∷ 175 ∷ []) ≡ 48 ∷ 57 ∷ 48 ∷ 97 ∷ 97 ∷ 102 ∷ []
unfolding hex_byte hex_of
hex_examples = refl

-- two digits a byte
pub hex_length : (s : List ℕ) → length (hex_of s) ≡ 2 * length s
unfolding hex_byte hex_of
hex_length [] = refl
hex_length (b ∷ s) = omega (arith, hex_length s)

hex_last : (s : List ℕ) (b : ℕ) → hex_of (s ++ (b ∷ [])) ≡ hex_of s ++ hex_byte b
unfolding hex_byte hex_of
hex_last [] b = refl
hex_last (a ∷ s) b = ap (λ (l : List ℕ). hex_byte a ++ l) (hex_last s b)

-- the digits of the first i bytes stand at the buffer's start
pub record Printed (bytes before after : List ℕ) (end i : ℕ) : Type 0 where
  pub within : i ≤ length bytes
  pub put : Put before after 0 (hex_of (take i bytes)) end

module _ (bytes out : List ℕ) where
  pub printed_none : Printed bytes out out 0 0
  unfolding hex_of
  printed_none = record { within = omega arith; put = put_none out }

  pub printed_refused : {w : Written} → w ≡ refused_written 16 → length out / 2 < length bytes
      → (w ≡ handed (hex_of bytes) (length out)) × (out ≡ handed_into (hex_of bytes) out)
  printed_refused e h = refused_handed (hex_of bytes) out e (omega (arith, hex_length bytes))

  module _ (after : List ℕ) (end i : ℕ) (printed : Printed bytes out after end i) where
    pub printed_length : length after ≡ length out
    printed_length = put_length printed.put

    pub printed_end : end ≡ 2 * i
    printed_end = omega (arith, printed.put.behind, hex_length (take i bytes), length-take-le i bytes printed.within)

    pub printed_more : i < length bytes → (digits : List ℕ) → digits ≡ hex_byte (get_or bytes i 0) → {next : List ℕ} {last : ℕ}
        → Put after next end digits last → Printed bytes out next last (i + 1)
    printed_more h digits e {next} {last} p = record { within = omega arith; put = rw more (put_next printed.put (rw e at p)) }
      where
        more : hex_of (take (i + 1) bytes) ≡ hex_of (take i bytes) ++ hex_byte (get_or bytes i 0)
        more = rw (add-one i, take-suc bytes i 0 h) (hex_last (take i bytes) (get_or bytes i 0))

    pub printed_all : length bytes ≤ i → (wrote end ≡ handed (hex_of bytes) (length out)) × (after ≡ handed_into (hex_of bytes) out)
    printed_all h = put_handed (hex_of bytes) out (rw (take_all i bytes h) at printed.put)
