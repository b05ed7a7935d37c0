-- Laws of lists and of yes-or-no values that the libraries lack.
use Prim.Native.Nat.{ℕ, zero, suc, min, ◌≤◌, ◌<◌, suc-le-suc}
use mathlib.Core.Bool.{Bool, true, false, ◌||◌, ◌&&◌, false≢true}
use mathlib.Core.List.{List, [], ◌∷◌, Memᴰ}
use mathlib.Core.Logic.{◌⊎◌, inl, inr}
use mathlib.Core.Path.{◌≡◌, refl, sym, ◌∙◌}
use native.Mathlib.Decide.{dec_le}
use native.Mathlib.Nat.{le_of_suc-le-suc}
use native.Mathlib.Omega.{arith}
use lib.ListN.{length, get_or, take, replicate}
use lib.Seq.{take_all}

-- a repeated element is what stands at every place, with itself for what is past the end
pub get_d_replicate_all : {A : Type 0} (n i : ℕ) (a : A) → get_or (replicate n a) i a ≡ a
get_d_replicate_all zero i a = refl
get_d_replicate_all (suc n) zero a = refl
get_d_replicate_all (suc n) (suc i) a = get_d_replicate_all n i a

-- two lists of n elements that agree in the first n are the same
pub same_take : {A : Type 0} (n : ℕ) (r s : List A) → length r ≡ n → length s ≡ n → take n r ≡ take n s → r ≡ s
same_take n r s hr hs e = sym (take_all n r (omega arith)) ∙ e ∙ take_all n s (omega arith)

-- a count above the length takes no more than the whole
pub take_min : {A : Type 0} (k n : ℕ) (s : List A) → length s ≡ n → take (min k n) s ≡ take k s
take_min k n s h = go (dec_le k n)
  where
    go : Dec (k ≤ n) → take (min k n) s ≡ take k s
    go (yes le) = let e : min k n ≡ k = omega arith in rw e refl
    go (no gt) = let e : min k n ≡ n = omega arith in rw (e, take_all n s (omega arith), take_all k s (omega arith)) refl

-- the element at a place of a list is a member of it
pub mem_at : {A : Type 0} (s : List A) (i : ℕ) (d : A) → i < length s → Memᴰ (get_or s i d) s
mem_at [] i d h = absurd (omega arith)
mem_at (a ∷ s) zero d h = Memᴰ.head refl
mem_at (a ∷ s) (suc i) d h = Memᴰ.tail (mem_at s i d (le_of_suc-le-suc h))

-- a member of a list stands at some place of it
pub mem_place : {A : Type 0} {a : A} (s : List A) (d : A) → Memᴰ a s → (i : ℕ) × (i < length s) × (get_or s i d ≡ a)
mem_place {A = A} {a = a} [] d x' = elim x' [ ]
mem_place (b ∷ s) d (Memᴰ.head e) = (zero, omega arith, sym e)
mem_place (b ∷ s) d (Memᴰ.tail h) = let t = mem_place s d h in (suc t.0, suc-le-suc t.1, t.2)

-- a yes of two comes from one of them
pub or_yes : (a b : Bool) → (a || b) ≡ true → (a ≡ true) ⊎ (b ≡ true)
or_yes true b e = inl refl
or_yes false b e = inr e

pub yes_or : (a b : Bool) → a ≡ true → (a || b) ≡ true
yes_or true b e = refl
yes_or false b e = absurd (false≢true e)

pub or_yes_right : (a b : Bool) → b ≡ true → (a || b) ≡ true
or_yes_right true b e = refl
or_yes_right false b e = e

-- a yes of both comes from each
pub and_left : (a b : Bool) → (a && b) ≡ true → a ≡ true
and_left true b e = refl
and_left false b e = e

pub and_right : (a b : Bool) → (a && b) ≡ true → b ≡ true
and_right true b e = e
and_right false b e = absurd (false≢true e)

-- what is not yes is no
pub not_yes : (a : Bool) → (a ≡ true → ⊥) → a ≡ false
not_yes true h = absurd (h refl)
not_yes false h = refl
