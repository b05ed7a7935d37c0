-- Tags compared with no early end: the differences of all bytes are gathered, and are nothing if and only if the tags are the same.
use mathlib.Core.Path.{◌≡◌, refl, ap, sym, ◌∙◌}
use mathlib.Core.Bool.{Bool, true, false, ◌&&◌}
use mathlib.Core.List.{List, [], ◌∷◌}
use Prim.Native.Nat.{ℕ}
use native.Mathlib.Omega.{arith}
use lib.Bits.{bit_or, bit_xor, or_add_and, xor_add_and, and_le_l, and_le_r, or_zero_r, xor_self}
use lib.Dec.{eqb}
use lib.ListN.{length}
use borrow.Author.Tests.{eqb-true, eqb-false, ne_eqb}
use Rattle.std.specs.List.{fold, zip}
use Rattle.format.specs.Bytes.{same_bytes}
use Rattle.format.proofs.Bytes.{and_end}
use Rattle.poly1305.specs.Poly1305.{gather}

or_nothing : (a b : ℕ) → bit_or a b ≡ 0 → b ≡ 0
or_nothing a b e = omega (arith, or_add_and a b, and_le_l a b)

xor_nothing : (a b : ℕ) → bit_xor a b ≡ 0 → a ≡ b
xor_nothing a b e = omega (arith, xor_add_and a b, and_le_l a b, and_le_r a b)

and_false : (a : Bool) → a && false ≡ false
and_false true = refl
and_false false = refl

all_hold : (a b c : Bool) → (a && b) && c ≡ a && (b && c)
all_hold true b c = refl
all_hold false b c = refl

-- one more difference
gathered : (d x y : ℕ) → eqb (bit_or d (bit_xor x y)) 0 ≡ eqb d 0 && eqb x y
gathered d x y = go (eqb x y) refl
  where
    go : (t : Bool) → eqb x y ≡ t → eqb (bit_or d (bit_xor x y)) 0 ≡ eqb d 0 && t
    go true e =
        let z : bit_xor x y ≡ 0 = ap (λ (w : ℕ). bit_xor w y) (eqb-true x y e) ∙ xor_self y in
        ap (λ (w : ℕ). eqb (bit_or d w) 0) z ∙ ap (λ (w : ℕ). eqb w 0) (or_zero_r d) ∙ sym (and_end (eqb d 0))
    go false e =
        ne_eqb (bit_or d (bit_xor x y)) 0 (λ z. eqb-false x y e (xor_nothing x y (or_nothing d (bit_xor x y) z))) ∙ sym (and_false (eqb d 0))

all_gathered : (a b : List ℕ) (d : ℕ) → length a ≡ length b → eqb (fold gather d (zip a b)) 0 ≡ eqb d 0 && same_bytes a b
unfolding same_bytes
all_gathered [] [] d e = sym (and_end (eqb d 0))
all_gathered [] (y ∷ b) d e = absurd (omega arith)
all_gathered (x ∷ a) [] d e = absurd (omega arith)
all_gathered (x ∷ a) (y ∷ b) d e =
    all_gathered a b (gather d (x, y)) (omega arith) ∙ rw (gathered d x y) (all_hold (eqb d 0) (eqb x y) (same_bytes a b))

-- all bytes are gathered: nothing, if and only if the two are the same
pub no_difference : (a b : List ℕ) → length a ≡ length b → eqb (fold gather 0 (zip a b)) 0 ≡ same_bytes a b
no_difference a b e = all_gathered a b 0 e
