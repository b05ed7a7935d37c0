-- Sums, conditional sums and selections over the numbers below n, each by recursion on n, as a loop that counts up makes them.
use Rattle.std.specs.Prelude.{ℕ, zero, suc, ◌+◌, Bool, cond, List, [], ◌∷◌, ◌++◌}

-- f 0 + .. + f (n - 1)
unfoldable pub sum : (ℕ → ℕ) → ℕ → ℕ
sum f zero = 0
sum f (suc n) = sum f n + f n

-- the sum of f i over those i below n that pass the test
unfoldable pub sum_where : (ℕ → Bool) → (ℕ → ℕ) → ℕ → ℕ
sum_where t f zero = 0
sum_where t f (suc n) = sum_where t f n + cond (t n) (f n) 0

-- the numbers below n that pass the test, ascending
unfoldable pub select : (ℕ → Bool) → ℕ → List ℕ
select t zero = []
select t (suc n) = select t n ++ cond (t n) (n ∷ []) []
