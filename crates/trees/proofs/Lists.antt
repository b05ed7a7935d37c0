-- Answers of tests, and lists without repetition. Nothing here is about trees.
use Prim.Native.Nat.{ℕ, suc, ◌≤◌, zero-le}
use mathlib.Core.Path.{◌≡◌, refl, ap, sym, ◌∙◌}
use mathlib.Core.Logic.{◌⊎◌, inl, inr, ◌≢◌}
use mathlib.Core.Bool.{Bool, true, false, ◌&&◌, ◌||◌}
use mathlib.Core.List.Memᴰ
use mathlib.Core.List.{List, [], ◌∷◌, ◌++◌, Memᴰ}
use native.Mathlib.Omega.{arith}
use lib.ListN.{length}
use Rattle.trees.specs.Trees.{Once}

-- a test has one of two answers, and the equation is kept
pub answers : (b : Bool) → (b ≡ true) ⊎ (b ≡ false)
answers true = inl refl
answers false = inr refl

pub not_both : {b : Bool} → b ≡ true → b ≡ false → ⊥
not_both p q = let z : ◌≡◌ {A = Bool} true false = cc in let e : ◌≡◌ {A = ℕ} 0 1 = cc in omega arith

-- what two tests say together
pub both_yes : (a b : Bool) → (a && b) ≡ true → (a ≡ true) × (b ≡ true)
both_yes true b e = (refl, e)
both_yes false b e = (e, absurd (not_both e refl))

pub either_yes : (a b : Bool) → (a || b) ≡ true → (a ≡ true) ⊎ (b ≡ true)
either_yes true b e = inl refl
either_yes false b e = inr e

pub and_false : (b : Bool) → (b && false) ≡ false
and_false true = refl
and_false false = refl

pub or_true : (b : Bool) → (b || true) ≡ true
or_true true = refl
or_true false = refl

-- a list with one member taken out: one shorter, and no other member is lost
pub record Without {A : Type 0} (x : A) (s : List A) : Type 0 where
  pub rest : List A
  pub shorter : length s ≡ suc (length rest)
  pub keeps : (y : A) → Memᴰ y s → y ≢ x → Memᴰ y rest

pub take_out : {A : Type 0} {x : A} {s : List A} → Memᴰ x s → Without x s
take_out {A = A} {x = x} {s = []} x3 = elim x3 [ ]
take_out {A} {x} {s = a ∷ s} (Memᴰ.head e) = record { rest = s; shorter = refl; keeps = λ y m ne. go y ne (Memᴰ.cases_cons m) }
  where
    go : (y : A) → y ≢ x → (y ≡ a) ⊎ Memᴰ y s → Memᴰ y s
    go y ne (inl q) = absurd (ne (q ∙ sym e))
    go y ne (inr m) = m
take_out {A} {x} {s = a ∷ s} (Memᴰ.tail m) = put (take_out m)
  where
    put : Without x s → Without x (a ∷ s)
    put w = record { rest = a ∷ w.rest; shorter = ap suc w.shorter; keeps = λ y k ne. go y ne (Memᴰ.cases_cons k) }
      where
        go : (y : A) → y ≢ x → (y ≡ a) ⊎ Memᴰ y s → Memᴰ y (a ∷ w.rest)
        go y ne (inl q) = Memᴰ.head q
        go y ne (inr k) = Memᴰ.tail (w.keeps y k ne)

-- a list without repetition that lies in another is no longer than it
pub once_length : {A : Type 0} (s t : List A) → Once s → ((x : A) → Memᴰ x s → Memᴰ x t) → length s ≤ length t
once_length [] t o h = zero-le
once_length (a ∷ s) t o h =
    let w : Without a t = take_out (h a (Memᴰ.head refl)) in
    let ih : length s ≤ length w.rest = once_length s w.rest o.1 (λ x m. w.keeps x (h x (Memᴰ.tail m)) (λ e. o.0 (Memᴰ.cast (sym e) m))) in
    omega (arith, w.shorter)

-- what is not yet there may be put at the end
pub once_snoc : {A : Type 0} (s : List A) (x : A) → Once s → ¬ Memᴰ x s → Once (s ++ (x ∷ []))
once_snoc [] x o h = (Memᴰ.not-nil, tt)
once_snoc (a ∷ s) x o h = (λ m. go (Memᴰ.append_cases s m), once_snoc s x o.1 (λ m. h (Memᴰ.tail m)))
  where
    go : Memᴰ a s ⊎ Memᴰ a (x ∷ []) → ⊥
    go (inl m) = o.0 m
    go (inr m) = h (Memᴰ.head (sym (Memᴰ.eq_of_singleton m)))

-- two lists that share no member may stand one after the other
pub once_append : {A : Type 0} (s t : List A) → Once s → Once t → ((x : A) → Memᴰ x s → Memᴰ x t → ⊥) → Once (s ++ t)
once_append [] t o p h = p
once_append (a ∷ s) t o p h = (λ m. go (Memᴰ.append_cases s m), once_append s t o.1 p (λ x k. h x (Memᴰ.tail k)))
  where
    go : Memᴰ a s ⊎ Memᴰ a t → ⊥
    go (inl m) = o.0 m
    go (inr m) = h a (Memᴰ.head refl) m
