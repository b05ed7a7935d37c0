-- A tree's total is the fewest keys exactly when each label under the top hangs from a parent of least weight; the plan's tree hangs so.
-- (003: Theorem 3)
use Prim.Native.Nat.{ℕ, ◌≤◌, ◌<◌}
use mathlib.Core.Path.{◌≡◌, sym, subst}
use mathlib.Core.Logic.{◌≢◌, ◌↔◌}
use mathlib.Core.Bool.{Bool, true, not}
use native.Mathlib.Nat.{le_trans, le_antisymm}
use native.Mathlib.Omega.{arith}
use lib.Dec.{eqb}
use borrow.Author.Tests.{eqb-true, eqb-false, eq-eqb, ne_eqb, not-true}
use Rattle.trees.specs.Trees.{top, Tree, Fewest}
use Rattle.trees.specs.Order.{Order}
use Rattle.trees.specs.Weights.{weight, total, weights, HangsLeast, plan, least}
use Rattle.trees.proofs.Sums.{sum_where_mono, sum_where_tight}
use Rattle.trees.proofs.Totals.{total_weights, total_enough, total_needed}
use Rattle.trees.proofs.Ties.{plan_least}

-- there is one fewest
pub fewest_unique : {n : ℕ} {count : ℕ → ℕ} {R : ℕ → ℕ → Type 0} {j k : ℕ} → Fewest n count R j → Fewest n count R k → j ≡ k
fewest_unique {j = j} {k = k} f g = le_antisymm (f.fewest k g.reached) (g.fewest j f.reached)

-- a tree that hangs so is a tree
pub hangs_tree : {n : ℕ} {count : ℕ → ℕ} {R : ℕ → ℕ → Type 0} {le : ℕ → ℕ → Bool} {parent : ℕ → ℕ} → HangsLeast n count R le parent → Tree n R parent
hangs_tree H = record { hangs = λ m hm ne. (H.hangs m hm ne).above }

module _ {n : ℕ} {R : ℕ → ℕ → Type 0} {le : ℕ → ℕ → Bool} (O : Order n R le) (count : ℕ → ℕ) where
  -- ---- the plan's tree

  pub plan_hangs : HangsLeast n count R le (plan n count le)
  unfolding plan
  plan_hangs = record { hangs = λ m hm ne. plan_least O count hm ne }

  pub plan_tree : Tree n R (plan n count le)
  plan_tree = hangs_tree plan_hangs

  -- ---- least weights and the least total

  under_top : (m : ℕ) → not (eqb m top) ≡ true → m ≢ top
  under_top m y = eqb-false m top (not-true (eqb m top) y)

  module _ {parent q : ℕ → ℕ} (H : HangsLeast n count R le parent) (Q : Tree n R q) where
    lighter : (m : ℕ) → m < n → not (eqb m top) ≡ true → weight n count le (parent m) m ≤ weight n count le (q m) m
    lighter m hm y = (H.hangs m hm (under_top m y)).least (q m) (Q.hangs m hm (under_top m y))

    -- a tree of least weights has no more than any tree's total
    pub least_total : total n count le parent ≤ total n count le q
    unfolding weights
    least_total =
        omega (
          arith,
          total_weights O count parent,
          total_weights O count q,
          sum_where_mono (λ m. not (eqb m top)) (λ m. weight n count le (parent m) m) (λ m. weight n count le (q m) m) n lighter,
        )

    -- and a tree that has no more hangs from parents of the same weights
    pub same_weights : total n count le q ≤ total n count le parent → (m : ℕ) → m < n → m ≢ top → weight n count le (parent m) m ≡ weight n count le (q m) m
    unfolding weights
    same_weights h m hm ne =
        sum_where_tight (λ m. not (eqb m top)) (λ m. weight n count le (parent m) m) (λ m. weight n count le (q m) m) n lighter
        (omega (arith, total_weights O count parent, total_weights O count q)) m hm (rw (ne_eqb m top ne))

  -- ---- least weights and the fewest keys

  pub least_fewest : {parent : ℕ → ℕ} → HangsLeast n count R le parent → Fewest n count R (total n count le parent)
  least_fewest {parent} H = record {
    reached = total_enough O count (hangs_tree H);
    fewest = λ j S. subst (λ (k : ℕ). total n count le parent ≤ k) S.issues
        (le_trans (least_total H S.tree) (total_needed O count S.tree S.sets S.assigned));
  }

  pub plan_fewest : Fewest n count R (total n count le (plan n count le))
  plan_fewest = least_fewest plan_hangs

  module _ {parent : ℕ → ℕ} (T : Tree n R parent) where
    -- a total that is no more than the plan's comes from least weights
    pub small_hangs : total n count le parent ≤ total n count le (plan n count le) → HangsLeast n count R le parent
    small_hangs h = record {
      hangs = λ m hm ne. record {
        above = T.hangs m hm ne;
        least = λ q a. subst (λ (w : ℕ). w ≤ weight n count le q m) (same_weights plan_hangs T h m hm ne) ((plan_hangs.hangs m hm ne).least q a);
      };
    }

    pub fewest_hangs : Fewest n count R (total n count le parent) → HangsLeast n count R le parent
    fewest_hangs F = small_hangs (F.fewest (total n count le (plan n count le)) (total_enough O count plan_tree))

    -- a total is the fewest exactly when it equals the number k that is
    same_fewest : (k : ℕ) → Fewest n count R k → Fewest n count R (total n count le parent) ↔ (total n count le parent ≡ k)
    same_fewest k F = (λ G. fewest_unique G F, λ e. subst (Fewest n count R) (sym e) F)

    pub fewest_equals : (k : ℕ) → Fewest n count R k → (total n count le parent ≡ k) ↔ HangsLeast n count R le parent
    fewest_equals k F = (λ e. fewest_hangs ((same_fewest k F).1 e), λ H. (same_fewest k F).0 (least_fewest H))

    -- ---- the answer for an offered tree

    pub yes_fewest : (least n count le parent ≡ true) ↔ Fewest n count R (total n count le parent)
    unfolding least
    yes_fewest = (
      λ y. subst (Fewest n count R) (sym (eqb-true (total n count le parent) (total n count le (plan n count le)) y)) plan_fewest,
      λ F. eq-eqb (total n count le parent) (total n count le (plan n count le)) (fewest_unique F plan_fewest),
    )

    pub yes_equals : (k : ℕ) → Fewest n count R k → (least n count le parent ≡ true) ↔ (total n count le parent ≡ k)
    yes_equals k F = (λ y. (same_fewest k F).0 (yes_fewest.0 y), λ e. yes_fewest.1 ((same_fewest k F).1 e))

    pub yes_no_smaller : (least n count le parent ≡ true) ↔ ((q : ℕ → ℕ) → Tree n R q → total n count le parent ≤ total n count le q)
    yes_no_smaller = (
      λ y q Q. least_total (fewest_hangs (yes_fewest.0 y)) Q,
      λ h. yes_fewest.1 (least_fewest (small_hangs (h (plan n count le) plan_tree))),
    )
