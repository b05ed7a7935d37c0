-- One account more raises the plan's total by at least 1 and at most by the number of labels at or below its label (02, Ask 3). Each direction is
-- an assignment: with one account's set taken away, what is left is no less than the fewest before; with one set added, the fewest after is no more.
use Prim.Native.Nat.{ℕ, suc, ◌+◌, ◌-◌, ◌≤◌, ◌<◌}
use mathlib.Core.Path.{◌≡◌, refl, ap, ap₂, ◌∙◌}
use mathlib.Core.Logic.{◌⊎◌, inl, inr, ◌↔◌}
use mathlib.Core.Bool.{Bool, true, false, cond, not, ◌||◌}
use mathlib.Core.List.Memᴰ
use mathlib.Core.List.{List, [], ◌∷◌, Memᴰ}
use native.Mathlib.Nat.{le_refl}
use native.Mathlib.Omega.{arith}
use lib.ListN.{length}
use lib.Dec.{eqb, ltb}
use borrow.Author.Tests.{eq-eqb, ne_eqb, eqb-false, not-true, lt-ltb, le-ltb, ltb-true}
use Rattle.trees.specs.Sums.{sum, sum_where}
use Rattle.trees.specs.Trees.{top, Once, Reached, held, down, Sufficient, keys, Scheme, Fewest}
use Rattle.trees.specs.Order.{Order}
use Rattle.trees.specs.Weights.{in_smallest, smallest}
use Rattle.trees.specs.Growth.{one_more, plan_total, cost, below, ceiling, Grows}
use Rattle.trees.proofs.Lists.{answers, both_yes}
use Rattle.trees.proofs.Sums.{sum_suc, sum_cong, sum_apart, sum_where_where, sum_where_within}
use Rattle.trees.proofs.Select.{selected, select_has, select_once, select_length, select_short, select_cong}
use Rattle.trees.proofs.Order.{test_yes, test_says}
use Rattle.trees.proofs.Smallest.{smallest_sufficient}
use Rattle.trees.proofs.Fewest.{plan_fewest}
use Rattle.trees.proofs.Tables.{SameCounts, SameTests, plan_agree, total_agree}

-- ---- the accounts with one more

module _ (count : ℕ → ℕ) (l : ℕ) where
  pub more_there : (m : ℕ) → m ≡ l → one_more count l m ≡ suc (count m)
  unfolding one_more
  more_there m e = rw (eq-eqb m l e)

  pub more_elsewhere : (m : ℕ) → (m ≡ l → ⊥) → one_more count l m ≡ count m
  unfolding one_more
  more_elsewhere m ne = rw (ne_eqb m l ne)

  -- no label loses an account
  more_kept : (m : ℕ) → count m ≤ one_more count l m
  unfolding one_more
  more_kept m = go (eqb m l)
    where
      go : (b : Bool) → count m ≤ cond b (suc (count m)) (count m)
      go true = omega arith
      go false = le_refl (count m)

  -- one set more is issued: that of the account after the last
  more_keys : (n : ℕ) → l < n → (sets : ℕ → ℕ → List ℕ) → keys n (one_more count l) sets ≡ keys n count sets + length (sets l (count l))
  unfolding keys
  more_keys n hl sets =
      sum_apart after l n hl ∙ ap₂ ◌+◌ there elsewhere ∙ omega (arith, sum_apart before l n hl)
    where
      before : ℕ → ℕ
      before m = sum (λ a. length (sets m a)) (count m)

      after : ℕ → ℕ
      after m = sum (λ a. length (sets m a)) (one_more count l m)

      there : after l ≡ before l + length (sets l (count l))
      there = ap (sum (λ a. length (sets l a))) (more_there l refl) ∙ sum_suc (λ a. length (sets l a)) (count l)

      elsewhere : sum_where (λ m. not (eqb m l)) after n ≡ sum_where (λ m. not (eqb m l)) before n
      elsewhere =
          sum_where_where (λ m. not (eqb m l)) after before n
          (λ m hm y. ap (sum (λ a. length (sets m a))) (more_elsewhere m (eqb-false m l (not-true (eqb m l) y))))

-- ---- one set taken away

-- nothing is reached from no label
none_reached : {n : ℕ} {parent : ℕ → ℕ} {m : ℕ} → Reached n parent [] m → ⊥
none_reached (held h) = Memᴰ.not-nil h
none_reached (down hm ne r) = none_reached r

-- so a sufficient set holds a label: its own label is reached
some_held : {n : ℕ} {R : ℕ → ℕ → Type 0} {le : ℕ → ℕ → Bool} (O : Order n R le) {parent : ℕ → ℕ} {l : ℕ} → l < n
    → (set : List ℕ) → Sufficient n R parent l set → 1 ≤ length set
some_held O {l = l} hl [] S = absurd (none_reached ((S.exactly l hl).1 (O.same l hl)))
some_held O hl (m ∷ set) S = omega arith

module _ {n : ℕ} {R : ℕ → ℕ → Type 0} {le : ℕ → ℕ → Bool} (O : Order n R le) (count : ℕ → ℕ) {l : ℕ} (hl : l < n) where
  -- the fewest before is less than any number that suffices after
  pub fewest_less : (k j : ℕ) → Fewest n count R k → Scheme n (one_more count l) R j → k + 1 ≤ j
  fewest_less k j F S =
      omega (
        arith,
        F.fewest (keys n count S.sets) without,
        more_keys count l n hl S.sets,
        S.issues,
        some_held O hl (S.sets l (count l)) (S.assigned.sufficient l (count l) hl (omega (arith, more_there count l l refl))),
      )
    where
      without : Scheme n count R (keys n count S.sets)
      without = record {
        parent = S.parent;
        sets = S.sets;
        tree = S.tree;
        assigned = record { sufficient = λ m a hm ha. S.assigned.sufficient m a hm (omega (arith, more_kept count l m)) };
        issues = refl;
      }

  -- ---- one set added

  -- a smallest set holds only labels at or below its own
  smallest_below : (parent : ℕ → ℕ) → length (smallest n le parent l) ≤ ceiling n le l
  unfolding ceiling below smallest in_smallest
  smallest_below parent =
      rw (select_length (in_smallest le parent l) n, select_length (λ m. le m l) n)
      (sum_where_within (in_smallest le parent l) (λ m. le m l) (λ m. 1) (λ m. 1) n
      (λ m hm e. ((both_yes (le m l) (eqb m top || not (le (parent m) l)) e).0, le_refl 1)))

  -- what suffices before, with the smallest set for the account after the last of its label
  with_one : (j : ℕ) → (S : Scheme n count R j) → Scheme n (one_more count l) R (j + length (smallest n le S.parent l))
  unfolding keys
  with_one j S = record {
    parent = S.parent;
    sets = added;
    tree = S.tree;
    assigned = record { sufficient = λ m a hm ha. fits m a hm };
    issues = more_keys count l n hl added ∙ ap₂ ◌+◌ (kept ∙ S.issues) (ap length (rest_added l (count l) (omega arith)));
  }
    where
      added : ℕ → ℕ → List ℕ
      added m a = cond (ltb a (count m)) (S.sets m a) (smallest n le S.parent m)

      first_kept : (m a : ℕ) → a < count m → added m a ≡ S.sets m a
      first_kept m a h = rw (lt-ltb a (count m) h)

      rest_added : (m a : ℕ) → count m ≤ a → added m a ≡ smallest n le S.parent m
      rest_added m a h = rw (le-ltb a (count m) h)

      fits : (m a : ℕ) → m < n → Sufficient n R S.parent m (added m a)
      fits m a hm = go (answers (ltb a (count m)))
        where
          go : (ltb a (count m) ≡ true) ⊎ (ltb a (count m) ≡ false) → Sufficient n R S.parent m (added m a)
          go (inl e) = rw e (S.assigned.sufficient m a hm (ltb-true a (count m) e))
          go (inr e) = rw e (smallest_sufficient O S.tree hm)

      kept : keys n count added ≡ keys n count S.sets
      kept =
          sum_cong (λ m. sum (λ a. length (added m a)) (count m)) (λ m. sum (λ a. length (S.sets m a)) (count m)) n
          (λ m hm. sum_cong (λ a. length (added m a)) (λ a. length (S.sets m a)) (count m) (λ a ha. ap length (first_kept m a ha)))

  -- the fewest after is no more than what suffices before and a key for each label at or below l
  pub fewest_more : (k j : ℕ) → Fewest n (one_more count l) R k → Scheme n count R j → k ≤ j + ceiling n le l
  fewest_more k j F S = omega (arith, F.fewest (j + length (smallest n le S.parent l)) (with_one j S), smallest_below S.parent)

  -- ---- the plan

  before_fewest : Fewest n count R (plan_total n count le)
  unfolding plan_total
  before_fewest = plan_fewest O count

  after_fewest : Fewest n (one_more count l) R (plan_total n (one_more count l) le)
  unfolding plan_total
  after_fewest = plan_fewest O (one_more count l)

  pub grows : Grows n count le l
  grows = record {
    least = fewest_less (plan_total n count le) (plan_total n (one_more count l) le) before_fewest after_fewest.reached;
    most = fewest_more (plan_total n (one_more count l) le) (plan_total n count le) after_fewest before_fewest.reached;
  }

-- ---- the labels that the ceiling counts: exactly those at or below l, each once

module _ {n : ℕ} {R : ℕ → ℕ → Type 0} {le : ℕ → ℕ → Bool} (O : Order n R le) {l : ℕ} (hl : l < n) where
  pub below_exactly : (m : ℕ) → Memᴰ m (below n le l) ↔ ((m < n) × R m l)
  unfolding below
  below_exactly m = (
    λ h. let s = selected (λ m. le m l) n h in (s.below, test_says O s.below hl s.passes),
    λ h. select_has (λ m. le m l) n h.0 (test_yes O h.0 hl h.1),
  )

pub below_once : (n : ℕ) (le : ℕ → ℕ → Bool) (l : ℕ) → Once (below n le l)
unfolding below
below_once n le l = select_once (λ m. le m l) n

-- the ceiling, as a loop counts it
pub ceiling_sum : (n : ℕ) (le : ℕ → ℕ → Bool) (l : ℕ) → ceiling n le l ≡ sum_where (λ m. le m l) (λ m. 1) n
unfolding ceiling below
ceiling_sum n le l = select_length (λ m. le m l) n

pub ceiling_short : (n : ℕ) (le : ℕ → ℕ → Bool) (l : ℕ) → ceiling n le l ≤ n
unfolding ceiling below
ceiling_short n le l = select_short (λ m. le m l) n

-- what one account more costs is added to today's total, and is at most the ceiling
module _ {n : ℕ} {count : ℕ → ℕ} {le : ℕ → ℕ → Bool} {l : ℕ} (G : Grows n count le l) where
  pub cost_added : plan_total n count le + cost n count le l ≡ plan_total n (one_more count l) le
  unfolding cost plan_total
  cost_added = omega (arith, G.least)

  pub cost_most : cost n count le l ≤ ceiling n le l
  cost_most = omega (arith, cost_added, G.most)

-- ---- only the accounts and the order of labels matter

module _ {n : ℕ} {count count' : ℕ → ℕ} {le le' : ℕ → ℕ → Bool} (c : SameCounts n count count') (h : SameTests n le le') where
  pub total_same : plan_total n count le ≡ plan_total n count' le'
  unfolding plan_total
  total_same = total_agree c h (plan_agree c h)

module _ {n : ℕ} {count count' : ℕ → ℕ} {le le' : ℕ → ℕ → Bool} (c : SameCounts n count count') (h : SameTests n le le') (l : ℕ) where
  more_same : SameCounts n (one_more count l) (one_more count' l)
  unfolding one_more
  more_same m hm = rw (c m hm)

  pub cost_same : cost n count le l ≡ cost n count' le' l
  unfolding cost
  cost_same = ap₂ ◌-◌ (total_same more_same h) (total_same c h)

  pub ceiling_same : l < n → ceiling n le l ≡ ceiling n le' l
  unfolding ceiling below
  ceiling_same hl = ap length (select_cong (λ m. le m l) (λ m. le' m l) n (λ m hm. h m l hm hl))
