-- Laws of byte strings: their comparison, and the bytes at a place.
use Prim.Native.Nat.{ℕ, zero, suc, ◌+◌, ◌-◌, ◌≤◌, ◌<◌}
use mathlib.Core.Bool.{Bool, true, false, ◌&&◌, false≢true}
use mathlib.Core.List.{List, [], ◌∷◌, ◌++◌}
use mathlib.Core.Path.{◌≡◌, refl, sym, ap, ◌∙◌}
use native.Mathlib.Decide.{dec_le}
use native.Mathlib.Omega.{arith}
use lib.Dec.{eqb}
use lib.Pointwise.{pointwise}
use lib.ListN.{length, get_or, take, drop, drop_of_length-le, length-drop, take-append-drop}
use lib.Seq.{drop-cons, length-take-le, take_all, take-append-le, drop-append-le}
use borrow.Author.Tests.{eq-eqb, eqb-true}
use Rattle.format.specs.Bytes.{bytes_at, same_bytes, number_at, number_bytes}

-- a number below 65,536 is read back from its two bytes
pub number_back : (x : ℕ) → x < 65_536 → number_at (number_bytes x) 0 ≡ x
number_back x h = omega arith

-- the two sides of a conjunction that holds
pub and_true : (a b : Bool) → a && b ≡ true → (a ≡ true) × (b ≡ true)
and_true true true e = (refl, refl)
and_true true false e = (refl, e)
and_true false b e = (e, absurd (false≢true e))

-- equal strings, and no others, are the same
pub same_refl : (a : List ℕ) → same_bytes a a ≡ true
unfolding same_bytes
same_refl [] = refl
same_refl (x ∷ a) = simp (eq-eqb x x refl, same_refl a)

pub same_eq : (a b : List ℕ) → same_bytes a b ≡ true → a ≡ b
unfolding same_bytes
same_eq [] [] e = refl
same_eq [] (y ∷ b) e = absurd (false≢true e)
same_eq (x ∷ a) [] e = absurd (false≢true e)
same_eq (x ∷ a) (y ∷ b) e =
    let h = and_true (eqb x y) (same_bytes a b) e in
    let head = eqb-true x y h.0 in
    let tail = same_eq a b h.1 in
    cc

pub differ : (a b : List ℕ) → (a ≡ b → ⊥) → same_bytes a b ≡ false
differ a b n = go (same_bytes a b) refl
  where
    go : (t : Bool) → same_bytes a b ≡ t → t ≡ false
    go true e = absurd (n (same_eq a b e))
    go false e = refl

pub same_true : (a b : List ℕ) → a ≡ b → same_bytes a b ≡ true
same_true a b e = rw e (same_refl b)

pub same? : (a b : List ℕ) → Dec (a ≡ b)
same? a b = go (same_bytes a b) refl
  where
    go : (t : Bool) → same_bytes a b ≡ t → Dec (a ≡ b)
    go true e = yes (same_eq a b e)
    go false e = no (λ same. false≢true (sym e ∙ same_true a b same))

-- what `==` of two byte strings or arrays answers
pub same_pointwise : (a b : List ℕ) → same_bytes a b ≡ pointwise eqb a b
unfolding same_bytes
same_pointwise [] [] = refl
same_pointwise [] (y ∷ b) = refl
same_pointwise (x ∷ a) [] = refl
same_pointwise (x ∷ a) (y ∷ b) = rw (same_pointwise a b)

-- two strings of n bytes are the same if the first n bytes of both agree, one by one
abbrev pub agree : List ℕ → List ℕ → ℕ → Bool
agree a b zero = true
agree a b (suc n) = agree a b n && eqb (get_or a n 0) (get_or b n 0)

and_assoc : (a b c : Bool) → a && (b && c) ≡ (a && b) && c
and_assoc true b c = refl
and_assoc false b c = refl

pub and_end : (a : Bool) → a && true ≡ a
and_end true = refl
and_end false = refl

module _ (a b : List ℕ) where
  through : (n : ℕ) → n ≤ length a → n ≤ length b → same_bytes a b ≡ agree a b n && same_bytes (drop n a) (drop n b)
  unfolding same_bytes
  through zero ha hb = refl
  through (suc n) ha hb =
      through n (omega arith) (omega arith)
      ∙ rw (next (omega arith) (omega arith)) (and_assoc (agree a b n) (eqb (get_or a n 0) (get_or b n 0)) (same_bytes (drop (suc n) a) (drop (suc n) b)))
    where
      next : n < length a → n < length b → same_bytes (drop n a) (drop n b) ≡ eqb (get_or a n 0) (get_or b n 0) && same_bytes (drop (suc n) a) (drop (suc n) b)
      next la lb = rw (drop-cons a n 0 la, drop-cons b n 0 lb)

  pub same_agree : (n : ℕ) → length a ≡ n → length b ≡ n → same_bytes a b ≡ agree a b n
  unfolding same_bytes
  same_agree n ha hb =
      through n (omega arith) (omega arith)
      ∙ rw (drop_of_length-le a {i = n} (omega arith), drop_of_length-le b {i = n} (omega arith)) (and_end (agree a b n))

-- the bytes at a place: a copy of n of them fills n places
module _ (s : List ℕ) (at : ℕ) where
  pub part_fills : (n : ℕ) → at + n ≤ length s → {out : List ℕ}
      → out ≡ take (at + n - at) (drop at s)
      → out ≡ bytes_at s at n
  part_fills n h e =
      let width : at + n - at ≡ n = omega arith in
      e ∙ ap (λ (k : ℕ). take k (drop at s)) width

-- the bytes of a front part
pub front_bytes : (front back : List ℕ) (at n : ℕ) → at + n ≤ length front → bytes_at (front ++ back) at n ≡ bytes_at front at n
front_bytes front back at n h =
    rw (drop-append-le at front back (omega arith), take-append-le n (drop at front) back (simp length-drop (omega arith)))

-- an answer that the bytes after so long a front part do not change is that of any such part
pub fronted : {A : Type 0} (bound : ℕ) (f : List ℕ → A) → ((front back : List ℕ) → bound ≤ length front → f (front ++ back) ≡ f front)
    → (n : ℕ) → bound ≤ n → (s : List ℕ) → f s ≡ f (take n s)
fronted bound f same n enough s = go (dec_le (length s) n)
  where
    go : Dec (length s ≤ n) → f s ≡ f (take n s)
    go (yes short) = ap f (sym (take_all n s short))
    go (no long) =
        let most : bound ≤ length (take n s) = rw (length-take-le n s (omega arith)) enough in
        rw (take-append-drop n s) at (same (take n s) (drop n s) most)
