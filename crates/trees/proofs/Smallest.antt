-- The smallest set is sufficient and lies in every sufficient set, so that none is shorter. (003: Lemmas 2 and 3)
use Prim.Native.Nat.{ℕ, zero, suc, ◌≤◌, ◌<◌}
use mathlib.Core.Path.{◌≡◌}
use mathlib.Core.Logic.{◌⊎◌, inl, inr, ◌≢◌}
use mathlib.Core.Bool.{Bool, true, false, not, ◌||◌}
use mathlib.Core.List.{List, Memᴰ}
use native.Mathlib.Omega.{arith}
use lib.ListN.{length}
use lib.Dec.{eqb}
use borrow.Author.Tests.{eqb-true, eq-eqb, not-true}
use Rattle.trees.specs.Trees.{top, Tree, Reached, held, down, Sufficient}
use Rattle.trees.specs.Order.{Order}
use Rattle.trees.specs.Weights.{in_smallest, smallest}
use Rattle.trees.proofs.Lists.{answers, not_both, both_yes, either_yes, or_true, once_length}
use Rattle.trees.proofs.Select.{selected, select_has, select_once}
use Rattle.trees.proofs.Order.{is_top, test_yes, test_says, above_lower}

-- what is in the smallest set: labels at or below l that are the top or whose parent is not at or below l
pub record Edge (n : ℕ) (le : ℕ → ℕ → Bool) (parent : ℕ → ℕ) (l m : ℕ) : Type 0 where
  pub label : m < n
  pub below : le m l ≡ true
  pub cut : (m ≡ top) ⊎ (le (parent m) l ≡ false)

pub in_smallest_lem : (n : ℕ) (le : ℕ → ℕ → Bool) (parent : ℕ → ℕ) (l : ℕ) {m : ℕ} → Memᴰ m (smallest n le parent l) → Edge n le parent l m
unfolding smallest in_smallest
in_smallest_lem n le parent l {m} k =
    let s = selected (in_smallest le parent l) n k in
    let b = both_yes (le m l) (eqb m top || not (le (parent m) l)) s.passes in
    record { label = s.below; below = b.0; cut = go (either_yes (eqb m top) (not (le (parent m) l)) b.1) }
  where
    go : (eqb m top ≡ true) ⊎ (not (le (parent m) l) ≡ true) → (m ≡ top) ⊎ (le (parent m) l ≡ false)
    go (inl e) = inl (eqb-true m top e)
    go (inr e) = inr (not-true (le (parent m) l) e)

-- the tests that put a label into it
pub in_smallest_top : (le : ℕ → ℕ → Bool) (parent : ℕ → ℕ) (l m : ℕ) → le m l ≡ true → m ≡ top → in_smallest le parent l m ≡ true
unfolding in_smallest
in_smallest_top le parent l m e q = rw (e, eq-eqb m top q)

pub in_smallest_cut : (le : ℕ → ℕ → Bool) (parent : ℕ → ℕ) (l m : ℕ) → le m l ≡ true → le (parent m) l ≡ false → in_smallest le parent l m ≡ true
unfolding in_smallest
in_smallest_cut le parent l m e f = simp (e, f) (or_true (eqb m top))

pub smallest_has : (n : ℕ) (le : ℕ → ℕ → Bool) (parent : ℕ → ℕ) (l : ℕ) {m : ℕ} → Edge n le parent l m → Memᴰ m (smallest n le parent l)
unfolding smallest
smallest_has n le parent l {m} e = select_has (in_smallest le parent l) n e.label (go e.cut)
  where
    go : (m ≡ top) ⊎ (le (parent m) l ≡ false) → in_smallest le parent l m ≡ true
    go (inl q) = in_smallest_top le parent l m e.below q
    go (inr f) = in_smallest_cut le parent l m e.below f

module _ {n : ℕ} {R : ℕ → ℕ → Type 0} {le : ℕ → ℕ → Bool} (O : Order n R le) {parent : ℕ → ℕ} (T : Tree n R parent) {l : ℕ} (hl : l < n) where
  -- from labels at or below l only such are reached (003, Lemma 2: the last paragraph of its proof)
  stays_below : (set : List ℕ) → ((m : ℕ) → Memᴰ m set → R m l) → {m : ℕ} → m < n → Reached n parent set m → R m l
  stays_below set h {m} hm (held k) = h m k
  stays_below set h {m} hm (down _ ne r) =
      let a = T.hangs m hm ne in
      O.chain m (parent m) l hm a.label hl a.over (stays_below set h a.label r)

  -- each label at or below l is reached: it is held, or its parent is at or below l and has a smaller number
  reaches : (f m : ℕ) → m < f → m < n → R m l → Reached n parent (smallest n le parent l) m
  reaches zero m hf hm r = absurd (omega arith)
  reaches (suc f) m hf hm r = go (reaches f) (is_top m)
    where
      below : le m l ≡ true
      below = test_yes O hm hl r

      step : (ne : m ≢ top) → (parent m < m → R (parent m) l → Reached n parent (smallest n le parent l) (parent m)) → (le (parent m) l ≡ true) ⊎ (le (parent m) l ≡ false)
          → Reached n parent (smallest n le parent l) m
      step ne ih (inl e) = let a = T.hangs m hm ne in down hm ne (ih (above_lower O hm a) (test_says O a.label hl e))
      step ne ih (inr e) = held (smallest_has n le parent l (record { label = hm; below = below; cut = inr e }))

      go : ((p : ℕ) → p < f → p < n → R p l → Reached n parent (smallest n le parent l) p) → (m ≡ top) ⊎ (m ≢ top) → Reached n parent (smallest n le parent l) m
      go ih (inl e) = held (smallest_has n le parent l (record { label = hm; below = below; cut = inl e }))
      go ih (inr ne) = step ne (λ q s. ih (parent m) (omega arith) (T.hangs m hm ne).label s) (answers (le (parent m) l))

  -- the smallest set is sufficient (003, Lemma 2)
  pub smallest_sufficient : Sufficient n R parent l (smallest n le parent l)
  unfolding smallest
  smallest_sufficient = record {
    labels = λ m k. (in_smallest_lem n le parent l k).label;
    once = select_once (in_smallest le parent l) n;
    exactly = λ m hm. (stays_below (smallest n le parent l) held_below hm, reaches (suc m) m (omega arith) hm);
  }
    where
      held_below : (m : ℕ) → Memᴰ m (smallest n le parent l) → R m l
      held_below m k = let e = in_smallest_lem n le parent l k in test_says O e.label hl e.below

  -- it lies in every sufficient set (003, Lemma 3): a label of it is reached, and not through its parent
  pub smallest_within : (set : List ℕ) → Sufficient n R parent l set → (m : ℕ) → Memᴰ m (smallest n le parent l) → Memᴰ m set
  smallest_within set S m k = go ((S.exactly m e.label).1 (test_says O e.label hl e.below))
    where
      e : Edge n le parent l m
      e = in_smallest_lem n le parent l k

      cut : m ≢ top → (m ≡ top) ⊎ (le (parent m) l ≡ false) → R (parent m) l → ⊥
      cut ne (inl q) r = ne q
      cut ne (inr q) r = not_both (test_yes O (T.hangs m e.label ne).label hl r) q

      go : Reached n parent set m → Memᴰ m set
      go (held j) = j
      go (down hm ne r) = absurd (cut ne e.cut ((S.exactly (parent m) (T.hangs m hm ne).label).0 r))

  -- hence no sufficient set is shorter
  pub smallest_shortest : (set : List ℕ) → Sufficient n R parent l set → length (smallest n le parent l) ≤ length set
  smallest_shortest set S = once_length (smallest n le parent l) set smallest_sufficient.once (smallest_within set S)
