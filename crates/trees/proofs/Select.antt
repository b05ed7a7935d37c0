-- Laws of selections: which numbers are in one, and how many.
use Prim.Native.Nat.{ℕ, zero, suc, ◌+◌, ◌≤◌, ◌<◌}
use mathlib.Core.Path.{◌≡◌, refl, ap, ap₂, sym, ◌∙◌, subst}
use mathlib.Core.Logic.{◌⊎◌, inl, inr, ◌≢◌}
use mathlib.Core.Bool.{Bool, true, false, cond}
use mathlib.Core.List.Memᴰ
use mathlib.Core.List.{List, [], ◌∷◌, ◌++◌, append-nil, Memᴰ}
use native.Mathlib.Nat.{le_of_suc-le-suc, eq-or-lt_of_le, mul-one}
use native.Mathlib.Omega.{arith}
use lib.ListN.{length, length-append}
use Rattle.trees.specs.Sums.{sum_where, select}
use Rattle.trees.specs.Trees.{Once}
use Rattle.trees.proofs.Lists.{answers, once_snoc}
use Rattle.trees.proofs.Sums.{sum_where_le, sum_const}

-- one turn of the loop, by the test's answer
pub select_yes : (t : ℕ → Bool) (n : ℕ) → t n ≡ true → select t (suc n) ≡ select t n ++ (n ∷ [])
unfolding select
select_yes t n e = rw e

pub select_no : (t : ℕ → Bool) (n : ℕ) → t n ≡ false → select t (suc n) ≡ select t n
unfolding select
select_no t n e = rw e (append-nil (select t n))

pub select_cong : (t u : ℕ → Bool) (n : ℕ) → ((i : ℕ) → i < n → t i ≡ u i) → select t n ≡ select u n
unfolding select
select_cong t u zero h = refl
select_cong t u (suc n) h = ap₂ (λ (s : List ℕ) (b : Bool). s ++ cond b (n ∷ []) []) (select_cong t u n (λ i l. h i (omega arith))) (h n (omega arith))

-- the numbers selected are those below n that pass the test
pub record Selected (t : ℕ → Bool) (n i : ℕ) : Type 0 where
  pub below : i < n
  pub passes : t i ≡ true

pub selected : (t : ℕ → Bool) (n : ℕ) {i : ℕ} → Memᴰ i (select t n) → Selected t n i
unfolding select
selected t zero m = absurd (Memᴰ.not-nil m)
selected t (suc n) {i} m = go (λ k. earlier (selected t n k)) (answers (t n))
  where
    earlier : Selected t n i → Selected t (suc n) i
    earlier s = record { below = omega arith; passes = s.passes }

    last : (Memᴰ i (select t n) → Selected t (suc n) i) → t n ≡ true → Memᴰ i (select t n) ⊎ Memᴰ i (n ∷ []) → Selected t (suc n) i
    last ih e (inl k) = ih k
    last ih e (inr k) = let q = Memᴰ.eq_of_singleton k in record { below = omega arith; passes = ap t q ∙ e }

    go : (Memᴰ i (select t n) → Selected t (suc n) i) → (t n ≡ true) ⊎ (t n ≡ false) → Selected t (suc n) i
    go ih (inl e) = last ih e (Memᴰ.append_cases (select t n) (subst (Memᴰ i) (select_yes t n e) m))
    go ih (inr e) = ih (subst (Memᴰ i) (select_no t n e) m)

pub select_has : (t : ℕ → Bool) (n : ℕ) {i : ℕ} → i < n → t i ≡ true → Memᴰ i (select t n)
unfolding select
select_has t zero l e = absurd (omega arith)
select_has t (suc n) {i} l e = go (λ h. select_has t n h e) (eq-or-lt_of_le (le_of_suc-le-suc l))
  where
    go : (i < n → Memᴰ i (select t n)) → (i ≡ n) ⊎ (i < n) → Memᴰ i (select t (suc n))
    go ih (inl q) = rw (select_yes t n (ap t (sym q) ∙ e)) (Memᴰ.append_right (select t n) (Memᴰ.head q))
    go ih (inr h) = Memᴰ.append_left (cond (t n) (n ∷ []) []) (ih h)

pub select_once : (t : ℕ → Bool) (n : ℕ) → Once (select t n)
unfolding select
select_once t zero = tt
select_once t (suc n) = go (select_once t n) (answers (t n))
  where
    go : Once (select t n) → (t n ≡ true) ⊎ (t n ≡ false) → Once (select t (suc n))
    go ih (inl e) = rw (select_yes t n e) (once_snoc (select t n) n ih (λ m. let s = selected t n m in omega arith))
    go ih (inr e) = rw (select_no t n e) ih

-- how many there are, as a loop counts them
pub select_length : (t : ℕ → Bool) (n : ℕ) → length (select t n) ≡ sum_where t (λ i. 1) n
unfolding select sum_where
select_length t zero = refl
select_length t (suc n) = length-append (select t n) (cond (t n) (n ∷ []) []) ∙ ap₂ ◌+◌ (select_length t n) (one (t n))
  where
    one : (b : Bool) → length (cond b (n ∷ []) []) ≡ cond b 1 0
    one true = refl
    one false = refl

pub select_short : (t : ℕ → Bool) (n : ℕ) → length (select t n) ≤ n
select_short t n = rw (select_length t n) (omega (arith, sum_where_le t (λ i. 1) n, sum_const 1 n, mul-one n))

-- a test that one number alone passes selects it alone
pub select_none : (t : ℕ → Bool) (n : ℕ) → ((i : ℕ) → i < n → t i ≡ false) → select t n ≡ []
unfolding select
select_none t zero h = refl
select_none t (suc n) h = select_no t n (h n (omega arith)) ∙ select_none t n (λ i l. h i (omega arith))

pub select_one : (t : ℕ → Bool) (k n : ℕ) → k < n → t k ≡ true → ((i : ℕ) → i < n → i ≢ k → t i ≡ false) → select t n ≡ k ∷ []
unfolding select
select_one t k zero l y h = absurd (omega arith)
select_one t k (suc n) l y h = go (λ r. select_one t k n r y (λ i s. h i (omega arith))) (eq-or-lt_of_le (le_of_suc-le-suc l))
  where
    go : (k < n → select t n ≡ k ∷ []) → (k ≡ n) ⊎ (k < n) → select t (suc n) ≡ k ∷ []
    go ih (inl q) =
        select_yes t n (ap t (sym q) ∙ y) ∙ ap (λ (s : List ℕ). s ++ (n ∷ [])) (select_none t n (λ i s. h i (omega arith) (λ e. omega arith))) ∙ ap (λ (x : ℕ). x ∷ []) (sym q)
    go ih (inr r) = select_no t n (h n (omega arith) (λ e. omega arith)) ∙ ih r
