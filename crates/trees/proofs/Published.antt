-- Document 003's statements, in its own words, for the definitions of `specs/`: Definitions 1 and 2, φ_E, γ and Theorem 2.
-- Lemmas 2 and 3 are `smallest_sufficient` and `smallest_within` of `Smallest.antt`, Theorem 3 is `plan_fewest` of `Fewest.antt`.
use Prim.Native.Nat.{ℕ, zero, suc, ◌+◌, ◌*◌, ◌<◌}
use mathlib.Core.Path.{◌≡◌, refl, ap, sym, ◌∙◌, subst}
use mathlib.Core.Logic.{◌⊎◌, inl, inr, ◌≢◌, ◌↔◌}
use mathlib.Core.Bool.{Bool, true, false, not}
use mathlib.Core.List.{List, [], ◌∷◌, Memᴰ}
use native.Mathlib.Nat.{add_left_cancel, mul-one}
use native.Mathlib.Omega.{arith}
use lib.ListN.{length}
use lib.Dec.{eqb}
use borrow.Author.Tests.{ne_eqb, not-true}
use Rattle.trees.specs.Sums.{sum_where}
use Rattle.trees.specs.Trees.{top, Tree, Reached, held, down, Sufficient}
use Rattle.trees.specs.Order.{Order}
use Rattle.trees.specs.Weights.{weighed, in_smallest, smallest, label_keys, total, weights}
use Rattle.trees.specs.Published.{Arc, Leads, stay, arc, Definition2}
use Rattle.trees.proofs.Lists.{answers, not_both, both_yes}
use Rattle.trees.proofs.Sums.{sum_apart}
use Rattle.trees.proofs.Select.{select_one}
use Rattle.trees.proofs.Order.{is_top, test_says, test_yes, test_no, over_top, above_lower, above_strict}
use Rattle.trees.proofs.Smallest.{Edge, in_smallest_lem, smallest_has}
use Rattle.trees.proofs.Totals.{total_weights}

module _ {n : ℕ} {parent : ℕ → ℕ} {set : List ℕ} where
  -- what is reached from a set is what a path leads to from a member
  pub reached_leads : {u : ℕ} → Reached n parent set u → (z : ℕ) × Memᴰ z set × Leads n parent z u
  reached_leads {u} (held k) = (u, k, stay)
  reached_leads (down h ne r) = let t = reached_leads r in (t.0, t.1, arc h ne t.2)

  pub leads_reached : {z u : ℕ} → Memᴰ z set → Leads n parent z u → Reached n parent set u
  leads_reached k stay = held k
  leads_reached k (arc h ne p) = down h ne (leads_reached k p)

module _ {n : ℕ} {R : ℕ → ℕ → Type 0} {le : ℕ → ℕ → Bool} (O : Order n R le) {parent : ℕ → ℕ} (T : Tree n R parent) {l : ℕ} (hl : l < n) (set : List ℕ) where
  -- a sufficient set holds its own label: its parent is not at or below it
  pub sufficient_own : Sufficient n R parent l set → Memᴰ l set
  sufficient_own S = go ((S.exactly l hl).1 (O.same l hl))
    where
      go : Reached n parent set l → Memᴰ l set
      go (held k) = k
      go (down h ne r) = let a = T.hangs l hl ne in absurd (above_strict O hl a ((S.exactly (parent l) a.label).0 r))

  pub sufficient_published : Sufficient n R parent l set ↔ Definition2 n R parent l set
  sufficient_published = (
    λ S. record {
      labels = S.labels;
      once = S.once;
      own = sufficient_own S;
      within = λ u hu r. reached_leads ((S.exactly u hu).1 r);
      without = λ u hu nr z k p. nr ((S.exactly u hu).0 (leads_reached k p));
    },
    λ D. record {
      labels = D.labels;
      once = D.once;
      exactly = λ u hu. (λ r. back D u hu (reached_leads r) (answers (le u l)), λ r. let t = D.within u hu r in leads_reached t.1 t.2);
    },
  )
    where
      back : Definition2 n R parent l set → (u : ℕ) → u < n → (z : ℕ) × Memᴰ z set × Leads n parent z u → (le u l ≡ true) ⊎ (le u l ≡ false) → R u l
      back D u hu t (inl y) = test_says O hu hl y
      back D u hu t (inr f) = absurd (D.without u hu (λ r. not_both (test_yes O hu hl r) f) t.0 t.1 t.2)

-- ---- Definition 1

module _ {n : ℕ} {R : ℕ → ℕ → Type 0} {le : ℕ → ℕ → Bool} (O : Order n R le) {parent : ℕ → ℕ} (T : Tree n R parent) where
  -- (i) T is a spanning out-tree: there is one arc to each label but the root (`Arc` takes it from a function), and a path from the root to each label
  spans : (f u : ℕ) → u < f → u < n → Leads n parent top u
  spans zero u hf hu = absurd (omega arith)
  spans (suc f) u hf hu = go (spans f) (is_top u)
    where
      go : ((v : ℕ) → v < f → v < n → Leads n parent top v) → (u ≡ top) ⊎ (u ≢ top) → Leads n parent top u
      go ih (inl e) = subst (Leads n parent top) (sym e) stay
      go ih (inr ne) = let a = T.hangs u hu ne in let l = above_lower O hu a in arc hu ne (ih (parent u) (omega arith) a.label)

  pub tree_spans : (u : ℕ) → u < n → Leads n parent top u
  tree_spans u hu = spans (suc u) u (omega arith) hu

  -- (ii) yz ∈ E(T) implies z < y
  pub arc_below : {y z : ℕ} → Arc n parent y z → R z y × (z ≢ y)
  arc_below {y} {z} a = let h = T.hangs z a.label a.under in (subst (R z) a.from h.over, λ e. h.other (a.from ∙ sym e))

  -- ---- φ_E

  -- φ_E(r) = {r}
  pub phi_root : smallest n le parent top ≡ top ∷ []
  unfolding smallest in_smallest
  phi_root = select_one (in_smallest le parent top) top n O.some (rw (test_yes O O.some O.some (O.same top O.some))) (λ m hm ne. others m hm ne)
    where
      others : (m : ℕ) → m < n → m ≢ top → in_smallest le parent top m ≡ false
      others m hm ne =
          let a = T.hangs m hm ne in
          rw (ne_eqb m top ne, test_yes O hm O.some (O.under m hm), test_yes O a.label O.some (O.under (parent m) a.label))

  -- φ_E(x) = {z ∈ X : there is y ∈ X such that yz ∈ E, x ⩾ z, and not x ⩾ y}, for x other than r
  pub phi : {x z : ℕ} → x < n → x ≢ top → Memᴰ z (smallest n le parent x) ↔ ((y : ℕ) × Arc n parent y z × R z x × (¬ R y x))
  phi {x} {z} hx nx = (
    λ k. let e = in_smallest_lem n le parent x k in let r = test_says O e.label hx e.below in to e r e.cut,
    λ t. smallest_has n le parent x (record {
      label = t.1.label;
      below = test_yes O t.1.label hx t.2;
      cut = inr (test_no O (T.hangs z t.1.label t.1.under).label hx (λ r. t.3 (subst (λ (y : ℕ). R y x) t.1.from r)));
    }),
  )
    where
      to : Edge n le parent x z → R z x → (z ≡ top) ⊎ (le (parent z) x ≡ false) → (y : ℕ) × Arc n parent y z × R z x × (¬ R y x)
      to e r (inl q) = absurd (nx (over_top O hx (subst (λ (m : ℕ). R m x) q r)))
      to e r (inr f) = (parent z, record { label = e.label; under = ne; from = refl }, r, λ s. not_both (test_yes O (T.hangs z e.label ne).label hx s) f)
        where
          ne : z ≢ top
          ne q = nx (over_top O hx (subst (λ (m : ℕ). R m x) q r))

  -- ---- Theorem 2

  -- the sum of |U(x)| · |φ(x)| over x other than r is the sum of ω over the arcs of T
  pub theorem2 : (count : ℕ → ℕ) → sum_where (λ x. not (eqb x top)) (λ x. count x * length (smallest n le parent x)) n ≡ weights n count le parent
  unfolding total label_keys
  theorem2 count = add_left_cancel (count top) (ap (λ (c : ℕ). c + others) (sym root) ∙ sym (sum_apart (label_keys n count le parent) top n O.some) ∙ total_weights O count parent)
    where
      others : ℕ
      others = sum_where (λ x. not (eqb x top)) (λ x. count x * length (smallest n le parent x)) n

      root : label_keys n count le parent top ≡ count top
      root = rw phi_root (mul-one (count top))

-- ---- γ

-- γ(yz) = {x ∈ X : x ⩾ z, and not x ⩾ y}; ω(yz) is the sum of |U(x)| over it by `weight`'s definition
pub gamma : {n : ℕ} {R : ℕ → ℕ → Type 0} {le : ℕ → ℕ → Bool} → Order n R le → {x y z : ℕ} → x < n → y < n → z < n
    → (weighed le y z x ≡ true) ↔ (R z x × (¬ R y x))
unfolding weighed
gamma {le = le} O {x} {y} {z} hx hy hz = (
  λ e. let b = both_yes (le z x) (not (le y x)) e in (test_says O hz hx b.0, λ r. not_both (test_yes O hy hx r) (not-true (le y x) b.1)),
  λ t. rw (test_yes O hz hx t.0, test_no O hy hx t.1),
)
