-- A table with one account more, the ceiling with one label more, and the totals of plans.
use Prim.Native.Nat.{ℕ, suc, ◌+◌, ◌<◌}
use mathlib.Core.Bool.{Bool, true, false, cond}
use mathlib.Core.List.{List}
use mathlib.Core.Logic.{◌⊎◌, inl, inr, ◌≢◌}
use mathlib.Core.Path.{◌≡◌, refl, sym, ap, ◌∙◌}
use native.Mathlib.Decide.{ℕ_discrete}
use native.Mathlib.Numerals.{add-one}
use native.Mathlib.Omega.{arith}
use lib.ListN.{length, set}
use lib.Seq.{get_or-set_same, get_or-set_other}
use Rattle.plan_answers.specs.Planned.{planned}
use Rattle.plan_answers.specs.declared.Plan.{Plan}
use Rattle.trees.proofs.Growth.{more_there, more_elsewhere, ceiling_sum, total_same}
use Rattle.trees.proofs.Lists.{answers}
use Rattle.trees.proofs.Select.{select_one}
use Rattle.trees.specs.Growth.{one_more, plan_total, below, ceiling}
use Rattle.trees.specs.Sums.{sum_where}
use Rattle.weights.specs.Tables.{entries, Falls}
use Rattle.costs.specs.Asks.{HoldsOneMore}

pub more_held : (counts : List ℕ) (l x : ℕ) → l < length counts → x ≡ suc (entries counts l) → HoldsOneMore counts l (set counts l x)
more_held counts l x h next m = go (ℕ_discrete m l)
  where
    go : Dec (m ≡ l) → entries (set counts l x) m ≡ one_more (entries counts) l m
    go (yes e) = rw e (get_or-set_same counts l x 0 h ∙ next ∙ sym (more_there (entries counts) l l refl))
    go (no ne) = get_or-set_other counts l m x 0 ne ∙ sym (more_elsewhere (entries counts) l m ne)

-- the labels below m are counted, and m is at or below l or not
pub ceiling_turn : (le : ℕ → ℕ → Bool) (l m x : ℕ) → x ≡ ceiling m le l → x + cond (le m l) 1 0 ≡ ceiling (m + 1) le l
unfolding sum_where
ceiling_turn le l m x e = rw add-one (ap (λ (s : ℕ). s + cond (le m l) 1 0) (e ∙ ceiling_sum m le l) ∙ sym (ceiling_sum (suc m) le l))

-- of the labels up to l it is l alone: no label is at or below one of a larger number
pub ceiling_own : (le : ℕ → ℕ → Bool) (l : ℕ) → Falls le → le l l ≡ true → ceiling (l + 1) le l ≡ 1
unfolding ceiling below
ceiling_own le l falls same = rw add-one (ap length (select_one (λ m. le m l) l (suc l) (omega arith) same before))
  where
    before : (m : ℕ) → m < suc l → m ≢ l → le m l ≡ false
    before m hm ne = go (answers (le m l))
      where
        go : (le m l ≡ true) ⊎ (le m l ≡ false) → le m l ≡ false
        go (inl e) = absurd (omega (arith, falls m l e))
        go (inr e) = e

-- the total of a plan, and of one with an account more
module _ (n : ℕ) (le : ℕ → ℕ → Bool) {plan : Plan} where
  pub total_planned : (counts : List ℕ) → plan ≡ planned 0 n (entries counts) le → plan.total ≡ plan_total n (entries counts) le
  unfolding planned plan_total
  total_planned counts e = ap (λ (p : Plan). p.total) e

  pub total_grown : (counts more : List ℕ) (l : ℕ) → plan ≡ planned 0 n (entries more) le → HoldsOneMore counts l more
      → plan.total ≡ plan_total n (one_more (entries counts) l) le
  total_grown counts more l e h = total_planned more e ∙ total_same (λ m hm. h m) (λ m k hm hk. refl)
