-- The plan's rule: a strictly higher label of least weight, preferred to every other such label. Theorems use these two laws, `plan_least` and
-- `plan_preferred`.
use Prim.Native.Nat.{ℕ, zero, suc, ◌≤◌, ◌<◌}
use mathlib.Core.Path.{◌≡◌}
use mathlib.Core.Logic.{◌⊎◌, inl, inr, ◌≢◌}
use mathlib.Core.Bool.{Bool, true, false, cond, ◌&&◌}
use native.Mathlib.Nat.{le_refl, le_of_suc-le-suc, eq-or-lt_of_le}
use native.Mathlib.Omega.{arith}
use borrow.Author.Tests.{leb-true, leb-false}
use Rattle.trees.specs.Trees.{top, Above}
use Rattle.trees.specs.Order.{Order}
use Rattle.trees.specs.Weights.{weight, LeastWeight, Preferred, takes, best, plan}
use Rattle.trees.proofs.Lists.{answers, not_both}
use Rattle.trees.proofs.Order.{test_yes, test_says, above_lower, top_above}

-- The rule in two steps. p is later than all that were weighed before, among them b, the best so far.
-- p takes the place: then p weighs no more than any q that b weighs no more than, and of equals p is preferred
take_step : (p q : ℕ) (later sofar other : ℕ) → takes later sofar ≡ true → q < p → sofar ≤ other → (later ≤ other) × (other ≤ later → Preferred p q)
unfolding takes
take_step p q later sofar other t l h = (omega (arith, leb-true), λ e. omega (arith, leb-true))

-- b keeps its place: then b weighs no more than p, and of equals b is preferred
keep_step : (b p : ℕ) (later sofar : ℕ) → takes later sofar ≡ false → b ≤ p → (sofar ≤ later) × (later ≤ sofar → Preferred b p)
unfolding takes
keep_step b p later sofar t l = (omega (arith, leb-false), λ e. omega (arith, leb-false))

-- one turn of the loop: a label that is not above m
pub best_pass : (n : ℕ) (count : ℕ → ℕ) (le : ℕ → ℕ → Bool) (m p : ℕ) → le m p ≡ false → best n count le m (suc p) ≡ best n count le m p
unfolding best
best_pass n count le m p e = rw e

-- the choice among the labels below k is never past k
pub best_early : (n : ℕ) (count : ℕ → ℕ) (le : ℕ → ℕ → Bool) (m k : ℕ) → best n count le m k ≤ k
unfolding best
best_early n count le m zero = le_refl 0
best_early n count le m (suc p) =
    go (le m p && takes (weight n count le p m) (weight n count le (best n count le m p) m)) (best n count le m p) (best_early n count le m p)
  where
    go : (t : Bool) (b : ℕ) → b ≤ p → cond t p b ≤ suc p
    go true b h = omega arith
    go false b h = omega arith

module _ {n : ℕ} {R : ℕ → ℕ → Type 0} {le : ℕ → ℕ → Bool} (O : Order n R le) (count : ℕ → ℕ) {m : ℕ} (hm : m < n) (ne : m ≢ top) where
  -- b is the choice among the labels below k that are above m
  record Best (k b : ℕ) : Type 0 where
    above : Above n R b m
    early : b ≤ k
    least : (q : ℕ) → q < k → le m q ≡ true → weight n count le b m ≤ weight n count le q m
    preferred : (q : ℕ) → q < k → le m q ≡ true → weight n count le q m ≤ weight n count le b m → Preferred b q

  best_best : (k : ℕ) → k ≤ m → Best k (best n count le m k)
  unfolding best
  best_best zero h = record { above = top_above O hm ne; early = omega arith; least = λ q l e. absurd (omega arith); preferred = λ q l e w. absurd (omega arith) }
  best_best (suc p) h = go (best_best p (omega arith)) (answers (le m p))
    where
      w : ℕ → ℕ
      w q = weight n count le q m

      b : ℕ
      b = best n count le m p

      taken : Best p b → le m p ≡ true → takes (w p) (w b) ≡ true → Best (suc p) p
      taken B e t = record {
        above = record { label = omega arith; other = λ q. omega arith; over = test_says O hm (omega arith) e };
        early = omega arith;
        least = λ q k f. by q f (eq-or-lt_of_le (le_of_suc-le-suc k));
        preferred = λ q k f v. to q f v (eq-or-lt_of_le (le_of_suc-le-suc k));
      }
        where
          by : (q : ℕ) → le m q ≡ true → (q ≡ p) ⊎ (q < p) → w p ≤ w q
          by q f (inl s) = rw s (le_refl (w p))
          by q f (inr s) = (take_step p q (w p) (w b) (w q) t s (B.least q s f)).0

          to : (q : ℕ) → le m q ≡ true → w q ≤ w p → (q ≡ p) ⊎ (q < p) → Preferred p q
          to q f v (inl s) = omega arith
          to q f v (inr s) = (take_step p q (w p) (w b) (w q) t s (B.least q s f)).1 v

      kept : Best p b → (le m p ≡ true → takes (w p) (w b) ≡ false) → Best (suc p) b
      kept B t = record {
        above = B.above;
        early = omega (arith, B.early);
        least = λ q k f. by q f (eq-or-lt_of_le (le_of_suc-le-suc k));
        preferred = λ q k f v. to q f v (eq-or-lt_of_le (le_of_suc-le-suc k));
      }
        where
          by : (q : ℕ) → le m q ≡ true → (q ≡ p) ⊎ (q < p) → w b ≤ w q
          by q f (inl s) = rw s (keep_step b p (w p) (w b) (t (rw s at f)) B.early).0
          by q f (inr s) = B.least q s f

          to : (q : ℕ) → le m q ≡ true → w q ≤ w b → (q ≡ p) ⊎ (q < p) → Preferred b q
          to q f v (inl s) = rw s ((keep_step b p (w p) (w b) (t (rw s at f)) B.early).1 (rw s at v))
          to q f v (inr s) = B.preferred q s f v

      weigh : Best p b → le m p ≡ true → (takes (w p) (w b) ≡ true) ⊎ (takes (w p) (w b) ≡ false) → Best (suc p) (best n count le m (suc p))
      weigh B e (inl t) = rw (e, t) (taken B e t)
      weigh B e (inr t) = rw (e, t) (kept B (λ d. t))

      go : Best p b → (le m p ≡ true) ⊎ (le m p ≡ false) → Best (suc p) (best n count le m (suc p))
      go B (inl e) = weigh B e (answers (takes (w p) (w b)))
      go B (inr e) = rw (best_pass n count le m p e) (kept B (λ d. absurd (not_both d e)))

  -- the first law: a strictly higher label, and none such weighs less
  pub plan_least : LeastWeight n count R le (plan n count le m) m
  unfolding plan
  plan_least =
      let B = best_best m (omega arith) in
      record { above = B.above; least = λ q a. B.least q (above_lower O hm a) (test_yes O hm a.label a.over) }

  -- the second law: the rule for ties
  pub plan_preferred : (q : ℕ) → LeastWeight n count R le q m → Preferred (plan n count le m) q
  unfolding plan
  plan_preferred q L =
      let B = best_best m (omega arith) in
      let a = L.above in
      B.preferred q (above_lower O hm a) (test_yes O hm a.label a.over) (L.least (best n count le m m) B.above)
