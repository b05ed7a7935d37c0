-- The weight of a parent for a label is the number of accounts that may open the label but not the parent.
use Prim.Native.Nat.{ℕ, zero, suc, ◌+◌, ◌≤◌, ◌<◌}
use mathlib.Core.Path.{◌≡◌, refl, ap, ap₂, sym, ◌∙◌, subst}
use mathlib.Core.Logic.{◌⊎◌, inl, inr, ◌↔◌}
use mathlib.Core.Bool.{Bool, true, false, cond}
use mathlib.Core.List.Memᴰ
use mathlib.Core.List.{List, [], ◌∷◌, ◌++◌, Memᴰ}
use native.Mathlib.Nat.{le_of_suc-le-suc, eq-or-lt_of_le, le_antisymm, le-suc_iff}
use native.Mathlib.Omega.{arith}
use lib.ListN.{length, length-append}
use Rattle.trees.specs.Sums.{sum_where}
use Rattle.trees.specs.Trees.{Once}
use Rattle.trees.specs.Order.{Order}
use Rattle.trees.specs.Weights.{weighed, weight}
use Rattle.trees.specs.Accounts.{Account, Exists, OpensBut, NumberOf}
use Rattle.trees.proofs.Lists.{once_length, once_snoc, once_append}
use Rattle.trees.proofs.Published.{gamma}

-- ---- the accounts of one label

-- k accounts at label l
accounts_at : (l k : ℕ) → List Account
accounts_at l zero = []
accounts_at l (suc k) = accounts_at l k ++ (record { label = l; number = suc k } ∷ [])

at_length : (l k : ℕ) → length (accounts_at l k) ≡ k
unfolding accounts_at
at_length l zero = refl
at_length l (suc k) = length-append (accounts_at l k) (record { label = l; number = suc k } ∷ []) ∙ omega (arith, at_length l k)

record At (l k : ℕ) (u : Account) : Type 0 where
  label : u.label ≡ l
  some : 0 < u.number
  within : u.number ≤ k

at_in : (l k : ℕ) {u : Account} → Memᴰ u (accounts_at l k) → At l k u
unfolding accounts_at
at_in l zero m = absurd (Memᴰ.not-nil m)
at_in l (suc k) {u} m = go (λ h. at_in l k h) (Memᴰ.append_cases (accounts_at l k) m)
  where
    go : (Memᴰ u (accounts_at l k) → At l k u) → Memᴰ u (accounts_at l k) ⊎ Memᴰ u (record { label = l; number = suc k } ∷ []) → At l (suc k) u
    go ih (inl h) = let a = ih h in record { label = a.label; some = a.some; within = omega (arith, a.within) }
    go ih (inr h) =
        let e = Memᴰ.eq_of_singleton h in
        let number : u.number ≡ suc k = ap (λ (v : Account). v.number) e in
        record { label = ap (λ (v : Account). v.label) e; some = omega arith; within = omega arith }

at_has : (l k : ℕ) {u : Account} → At l k u → Memᴰ u (accounts_at l k)
unfolding accounts_at
at_has l zero a = absurd (omega (arith, a.some, a.within))
at_has l (suc k) {u} a = go (λ h. at_has l k h) (le-suc_iff.0 a.within)
  where
    go : (At l k u → Memᴰ u (accounts_at l k)) → (u.number ≤ k) ⊎ (u.number ≡ suc k) → Memᴰ u (accounts_at l (suc k))
    go ih (inl h) = Memᴰ.append_left (record { label = l; number = suc k } ∷ []) (ih (record { label = a.label; some = a.some; within = h }))
    go ih (inr e) = Memᴰ.append_right (accounts_at l k) (Memᴰ.head (ap₂ (λ (x y : ℕ). record { label = x; number = y }) a.label e))

at_once : (l k : ℕ) → Once (accounts_at l k)
unfolding accounts_at
at_once l zero = tt
at_once l (suc k) = once_snoc (accounts_at l k) (record { label = l; number = suc k }) (at_once l k) (λ m. let a = at_in l k m in omega (arith, a.within))

-- ---- the accounts of the labels below n that pass a test

accounts_where : (ℕ → Bool) → (ℕ → ℕ) → ℕ → List Account
accounts_where t count zero = []
accounts_where t count (suc n) = accounts_where t count n ++ cond (t n) (accounts_at n (count n)) []

module _ (t : ℕ → Bool) (count : ℕ → ℕ) where
  where-length : (n : ℕ) → length (accounts_where t count n) ≡ sum_where t count n
  unfolding accounts_where sum_where
  where-length zero = refl
  where-length (suc n) = length-append (accounts_where t count n) (cond (t n) (accounts_at n (count n)) []) ∙ ap₂ ◌+◌ (where-length n) (here (t n))
    where
      here : (b : Bool) → length (cond b (accounts_at n (count n)) []) ≡ cond b (count n) 0
      here true = at_length n (count n)
      here false = refl

  record Where (n : ℕ) (u : Account) : Type 0 where
    exists : Exists n count u
    passes : t u.label ≡ true

  -- the accounts of label n, if it passes
  here_in : (n : ℕ) {u : Account} (b : Bool) → t n ≡ b → Memᴰ u (cond b (accounts_at n (count n)) []) → At n (count n) u × (t n ≡ true)
  here_in n true e m = (at_in n (count n) m, e)
  here_in n false e m = absurd (Memᴰ.not-nil m)

  where-in : (n : ℕ) {u : Account} → Memᴰ u (accounts_where t count n) → Where n u
  unfolding accounts_where
  where-in zero m = absurd (Memᴰ.not-nil m)
  where-in (suc n) {u} m = go (λ h. where-in n h) (Memᴰ.append_cases (accounts_where t count n) m)
    where
      go : (Memᴰ u (accounts_where t count n) → Where n u) → Memᴰ u (accounts_where t count n) ⊎ Memᴰ u (cond (t n) (accounts_at n (count n)) [])
          → Where (suc n) u
      go ih (inl h) =
          let w = ih h in
          record { exists = record { label = omega (arith, w.exists.label); some = w.exists.some; within = w.exists.within }; passes = w.passes }
      go ih (inr h) =
          let w = here_in n (t n) refl h in
          let e = w.0.label in
          record {
            exists = record { label = omega arith; some = w.0.some; within = subst (λ (l : ℕ). u.number ≤ count l) (sym e) w.0.within };
            passes = ap t e ∙ w.1;
          }

  where-has : (n : ℕ) {u : Account} → Where n u → Memᴰ u (accounts_where t count n)
  unfolding accounts_where
  where-has zero w = absurd (omega (arith, w.exists.label))
  where-has (suc n) {u} w = go (λ h. where-has n h) (eq-or-lt_of_le (le_of_suc-le-suc w.exists.label))
    where
      go : (Where n u → Memᴰ u (accounts_where t count n)) → (u.label ≡ n) ⊎ (u.label < n) → Memᴰ u (accounts_where t count (suc n))
      go ih (inl e) = Memᴰ.append_right (accounts_where t count n) (subst (λ (b : Bool). Memᴰ u (cond b (accounts_at n (count n)) [])) (sym passes) there)
        where
          passes : t n ≡ true
          passes = ap t (sym e) ∙ w.passes

          there : Memᴰ u (accounts_at n (count n))
          there = at_has n (count n) (record { label = e; some = w.exists.some; within = subst (λ (l : ℕ). u.number ≤ count l) e w.exists.within })
      go ih (inr h) =
          Memᴰ.append_left (cond (t n) (accounts_at n (count n)) [])
          (ih (record { exists = record { label = h; some = w.exists.some; within = w.exists.within }; passes = w.passes }))

  where-once : (n : ℕ) → Once (accounts_where t count n)
  unfolding accounts_where
  where-once zero = tt
  where-once (suc n) = once_append (accounts_where t count n) (cond (t n) (accounts_at n (count n)) []) (where-once n) (here (t n)) apart
    where
      here : (b : Bool) → Once (cond b (accounts_at n (count n)) [])
      here true = at_once n (count n)
      here false = tt

      apart : (u : Account) → Memᴰ u (accounts_where t count n) → Memᴰ u (cond (t n) (accounts_at n (count n)) []) → ⊥
      apart u m k = let w = where-in n m in let a = here_in n (t n) refl k in omega (arith, w.exists.label, a.0.label)

-- ---- the number of accounts

-- there is one such number
pub number_one : {P : Account → Type 0} {j k : ℕ} → NumberOf P j → NumberOf P k → j ≡ k
number_one {j = j} {k = k} a b = sym a.long ∙ le_antisymm (inside a b) (inside b a) ∙ b.long
  where
    inside : {P : Account → Type 0} {j k : ℕ} (a : NumberOf P j) (b : NumberOf P k) → length a.list ≤ length b.list
    inside a b = once_length a.list b.list a.once (λ u m. (b.exactly u).1 ((a.exactly u).0 m))

module _ {n : ℕ} {R : ℕ → ℕ → Type 0} {le : ℕ → ℕ → Bool} (O : Order n R le) (count : ℕ → ℕ) {p m : ℕ} (hp : p < n) (hm : m < n) where
  pub weight_number : NumberOf (OpensBut n count R p m) (weight n count le p m)
  unfolding weight
  weight_number = record {
    list = accounts_where (weighed le p m) count n;
    once = where-once (weighed le p m) count n;
    exactly = λ u. (
      λ h. let w = where-in (weighed le p m) count n h in let g = (gamma O w.exists.label hp hm).0 w.passes in record { exists = w.exists; opens = g.0; but_not = g.1 },
      λ o. where-has (weighed le p m) count n (record { exists = o.exists; passes = (gamma O o.exists.label hp hm).1 (o.opens, o.but_not) }),
    );
    long = where-length (weighed le p m) count n;
  }

  pub weight_accounts : (k : ℕ) → NumberOf (OpensBut n count R p m) k ↔ (k ≡ weight n count le p m)
  weight_accounts k = (λ a. number_one a weight_number, λ e. subst (NumberOf (OpensBut n count R p m)) (sym e) weight_number)
