-- Laws of sums and conditional sums over the numbers below n.
use Prim.Native.Nat.{ℕ, zero, suc, ◌+◌, ◌*◌, ◌≤◌, ◌<◌}
use mathlib.Core.Path.{◌≡◌, refl, ap, ap₂, sym, ◌∙◌}
use mathlib.Core.Logic.{◌⊎◌, inl, inr}
use mathlib.Core.Bool.{Bool, true, false, cond, not}
use native.Mathlib.Nat.{mul-zero, mul-add, suc-mul, zero-mul, le_refl, le-suc_iff, le_of_suc-le-suc, eq-or-lt_of_le, add-le-add}
use native.Mathlib.Omega.{arith}
use lib.Dec.{eqb}
use borrow.Author.Tests.{eq-eqb, ne_eqb}
use Rattle.trees.specs.Sums.{sum, sum_where}

-- ---- sums

-- one turn of the loop
pub sum_suc : (f : ℕ → ℕ) (n : ℕ) → sum f (suc n) ≡ sum f n + f n
unfolding sum
sum_suc f n = refl

pub sum_cong : (f g : ℕ → ℕ) (n : ℕ) → ((i : ℕ) → i < n → f i ≡ g i) → sum f n ≡ sum g n
unfolding sum
sum_cong f g zero h = refl
sum_cong f g (suc n) h = ap₂ ◌+◌ (sum_cong f g n (λ i l. h i (omega arith))) (h n (omega arith))

pub sum_mono : (f g : ℕ → ℕ) (n : ℕ) → ((i : ℕ) → i < n → f i ≤ g i) → sum f n ≤ sum g n
unfolding sum
sum_mono f g zero h = le_refl 0
sum_mono f g (suc n) h = add-le-add (sum_mono f g n (λ i l. h i (omega arith))) (h n (omega arith))

-- sums that are equal though each term of the first is at most that of the second have equal terms
pub sum_tight : (f g : ℕ → ℕ) (n : ℕ) → ((i : ℕ) → i < n → f i ≤ g i) → sum g n ≤ sum f n → (i : ℕ) → i < n → f i ≡ g i
unfolding sum
sum_tight f g zero h e i l = omega arith
sum_tight f g (suc n) h e i l = go (sum_tight f g n (λ j r. h j (omega arith))) (eq-or-lt_of_le (le_of_suc-le-suc l))
  where
    before : sum f n ≤ sum g n
    before = sum_mono f g n (λ j k. h j (omega arith))

    last : f n ≤ g n
    last = h n (omega arith)

    go : (sum g n ≤ sum f n → (j : ℕ) → j < n → f j ≡ g j) → (i ≡ n) ⊎ (i < n) → f i ≡ g i
    go ih (inl q) = ap f q ∙ same ∙ ap g (sym q)
      where
        same : f n ≡ g n
        same = omega (arith, before, last)
    go ih (inr k) = ih (omega (arith, before, last)) i k

pub sum_add : (f g : ℕ → ℕ) (n : ℕ) → sum (λ i. f i + g i) n ≡ sum f n + sum g n
unfolding sum
sum_add f g zero = refl
sum_add f g (suc n) = omega (arith, sum_add f g n)

pub sum_zero : (f : ℕ → ℕ) (n : ℕ) → ((i : ℕ) → i < n → f i ≡ 0) → sum f n ≡ 0
unfolding sum
sum_zero f zero h = refl
sum_zero f (suc n) h = omega (arith, sum_zero f n (λ i l. h i (omega arith)), h n (omega arith))

pub sum_const : (c n : ℕ) → sum (λ i. c) n ≡ n * c
unfolding sum
sum_const c zero = sym (zero-mul c)
sum_const c (suc n) = ap (λ (s : ℕ). s + c) (sum_const c n) ∙ sym (suc-mul n c)

pub sum_mul : (c : ℕ) (f : ℕ → ℕ) (n : ℕ) → c * sum f n ≡ sum (λ i. c * f i) n
unfolding sum
sum_mul c f zero = mul-zero c
sum_mul c f (suc n) = mul-add c (sum f n) (f n) ∙ ap (λ (s : ℕ). s + c * f n) (sum_mul c f n)

-- a double sum with its order swapped
pub sum_swap : (f : ℕ → ℕ → ℕ) (n m : ℕ) → sum (λ i. sum (λ j. f i j) m) n ≡ sum (λ j. sum (λ i. f i j) n) m
unfolding sum
sum_swap f zero m = sym (sum_zero (λ j. 0) m (λ j l. refl))
sum_swap f (suc n) m = ap (λ (s : ℕ). s + sum (λ j. f n j) m) (sum_swap f n m) ∙ sym (sum_add (λ j. sum (λ i. f i j) n) (λ j. f n j) m)

pub sum_bound : (f : ℕ → ℕ) (c n : ℕ) → ((i : ℕ) → i < n → f i ≤ c) → sum f n ≤ n * c
sum_bound f c n h = rw (← (sum_const c n)) (sum_mono f (λ i. c) n h)

-- a sum so far is at most the whole
pub sum_upto : (f : ℕ → ℕ) (k n : ℕ) → k ≤ n → sum f k ≤ sum f n
unfolding sum
sum_upto f k zero l = let e : k ≡ 0 = omega arith in rw e (le_refl 0)
sum_upto f k (suc n) l = go (sum_upto f k n) (le-suc_iff.0 l)
  where
    go : (k ≤ n → sum f k ≤ sum f n) → (k ≤ n) ⊎ (k ≡ suc n) → sum f k ≤ sum f (suc n)
    go ih (inl h) = omega (arith, ih h)
    go ih (inr q) = rw q (le_refl (sum f (suc n)))

-- ---- conditional sums

pub sum_where_no : (t : ℕ → Bool) (f : ℕ → ℕ) (n : ℕ) → t n ≡ false → sum_where t f (suc n) ≡ sum_where t f n
unfolding sum_where
sum_where_no t f n e = rw e (omega arith)

pub sum_where_sum : (t : ℕ → Bool) (f : ℕ → ℕ) (n : ℕ) → sum_where t f n ≡ sum (λ i. cond (t i) (f i) 0) n
unfolding sum sum_where
sum_where_sum t f zero = refl
sum_where_sum t f (suc n) = ap (λ (s : ℕ). s + cond (t n) (f n) 0) (sum_where_sum t f n)

pub sum_where_cong : (t u : ℕ → Bool) (f g : ℕ → ℕ) (n : ℕ) → ((i : ℕ) → i < n → t i ≡ u i) → ((i : ℕ) → i < n → f i ≡ g i) → sum_where t f n ≡ sum_where u g n
unfolding sum_where
sum_where_cong t u f g zero h k = refl
sum_where_cong t u f g (suc n) h k =
    ap₂ ◌+◌ (sum_where_cong t u f g n (λ i l. h i (omega arith)) (λ i l. k i (omega arith))) (ap₂ (λ (b : Bool) (x : ℕ). cond b x 0) (h n (omega arith)) (k n (omega arith)))

-- the summands count only where the test passes
cond_cong : (b : Bool) (x y : ℕ) → (b ≡ true → x ≡ y) → cond b x 0 ≡ cond b y 0
cond_cong true x y h = h refl
cond_cong false x y h = refl

cond_mono : (b c : Bool) (x y : ℕ) → (b ≡ true → (c ≡ true) × (x ≤ y)) → cond b x 0 ≤ cond c y 0
cond_mono true c x y h = rw (h refl).0 (h refl).1
cond_mono false c x y h = omega arith

pub sum_where_where : (t : ℕ → Bool) (f g : ℕ → ℕ) (n : ℕ) → ((i : ℕ) → i < n → t i ≡ true → f i ≡ g i) → sum_where t f n ≡ sum_where t g n
sum_where_where t f g n h =
    rw (sum_where_sum t f n, sum_where_sum t g n) (sum_cong (λ i. cond (t i) (f i) 0) (λ i. cond (t i) (g i) 0) n (λ i l. cond_cong (t i) (f i) (g i) (h i l)))

-- where a test passes another passes too, with no less to count
pub sum_where_within : (t u : ℕ → Bool) (f g : ℕ → ℕ) (n : ℕ) → ((i : ℕ) → i < n → t i ≡ true → (u i ≡ true) × (f i ≤ g i)) → sum_where t f n ≤ sum_where u g n
sum_where_within t u f g n h =
    rw (sum_where_sum t f n, sum_where_sum u g n) (sum_mono (λ i. cond (t i) (f i) 0) (λ i. cond (u i) (g i) 0) n (λ i l. cond_mono (t i) (u i) (f i) (g i) (h i l)))

pub sum_where_mono : (t : ℕ → Bool) (f g : ℕ → ℕ) (n : ℕ) → ((i : ℕ) → i < n → t i ≡ true → f i ≤ g i) → sum_where t f n ≤ sum_where t g n
sum_where_mono t f g n h = sum_where_within t t f g n (λ i l y. (y, h i l y))

pub sum_where_tight : (t : ℕ → Bool) (f g : ℕ → ℕ) (n : ℕ) → ((i : ℕ) → i < n → t i ≡ true → f i ≤ g i) → sum_where t g n ≤ sum_where t f n
    → (i : ℕ) → i < n → t i ≡ true → f i ≡ g i
sum_where_tight t f g n h e i l y =
    let same = sum_tight (λ i. cond (t i) (f i) 0) (λ i. cond (t i) (g i) 0) n (λ i l. cond_mono (t i) (t i) (f i) (g i) (λ y. (y, h i l y)))
    (rw (sum_where_sum t f n, sum_where_sum t g n) at e) i l in
    rw y at same

pub sum_where_le : (t : ℕ → Bool) (f : ℕ → ℕ) (n : ℕ) → sum_where t f n ≤ sum f n
sum_where_le t f n = rw (sum_where_sum t f n) (sum_mono (λ i. cond (t i) (f i) 0) f n (λ i l. cond_mono (t i) true (f i) (f i) (λ y. (refl, le_refl (f i)))))

-- the term at one place beside the terms at all others
pub sum_apart : (f : ℕ → ℕ) (k n : ℕ) → k < n → sum f n ≡ f k + sum_where (λ i. not (eqb i k)) f n
unfolding sum sum_where
sum_apart f k zero l = omega arith
sum_apart f k (suc n) l = go (sum_apart f k n) (eq-or-lt_of_le (le_of_suc-le-suc l))
  where
    all : (j : ℕ) → j ≤ k → sum_where (λ i. not (eqb i k)) f j ≡ sum f j
    all zero h = refl
    all (suc j) h = let e : eqb j k ≡ false = ne_eqb j k (λ q. omega arith) in rw e (ap (λ (s : ℕ). s + f j) (all j (omega arith)))

    go : (k < n → sum f n ≡ f k + sum_where (λ i. not (eqb i k)) f n) → (k ≡ n) ⊎ (k < n) → sum f n + f n ≡ f k + (sum_where (λ i. not (eqb i k)) f n + cond (not (eqb n k)) (f n) 0)
    go ih (inl q) = let e : eqb n k ≡ true = eq-eqb n k (sym q) in rw e (omega (arith, all n (omega arith), ap f q))
    go ih (inr h) = let e : eqb n k ≡ false = ne_eqb n k (λ q. omega arith) in rw e (omega (arith, ih h))
