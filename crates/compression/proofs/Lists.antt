-- Laws of lists that are filled from the front, one element a turn.
use mathlib.Core.Path.{◌≡◌, sym, ◌∙◌}
use mathlib.Core.List.{List, [], ◌∷◌, ◌++◌, append_assoc}
use Prim.Native.Nat.{ℕ, suc, ◌+◌, ◌<◌}
use native.Mathlib.Numerals.{add-one}
use lib.ListN.{length, set, drop, length-append}
use lib.Seq.{drop-cons, set_at}

-- a store after what is filled already
pub filled : (p d : List ℕ) (t x : ℕ) → length p ≡ t → t < length d → set (p ++ drop t d) t x ≡ (p ++ (x ∷ [])) ++ drop (t + 1) d
filled p d t x e h =
    rw (add-one, drop-cons d t 0) (set_at p _ (drop (suc t) d) x t e ∙ sym (append_assoc p (x ∷ []) (drop (suc t) d)))

-- one element more makes the list one longer
pub length_snoc : (p : List ℕ) (x : ℕ) → length (p ++ (x ∷ [])) ≡ suc (length p)
length_snoc p x = length-append p (x ∷ []) ∙ add-one (length p)
