-- Lists of bytes.
use mathlib.Core.List.{List, [], ◌∷◌, ◌++◌}
use Prim.Native.Nat.{ℕ, zero, suc, ◌<◌}
use lib.ListN.{get_or}

-- every element is below 256; the default is too
abbrev pub Bytes : List ℕ → Type 0
Bytes l = (i : ℕ) → get_or l i 0 < 256

pub bytes_append : (s t : List ℕ) → Bytes s → Bytes t → Bytes (s ++ t)
bytes_append [] t p q i = q i
bytes_append (x ∷ s) t p q zero = p zero
bytes_append (x ∷ s) t p q (suc i) = bytes_append s t (λ j. p (suc j)) q i
