-- Laws of the table's definitions: what an entry of a row says, and that a row stays as it was made.
use Prim.Native.Nat.{ℕ, zero, suc, ◌≤◌, ◌<◌}
use mathlib.Core.Bool.{Bool, true, false, cond, ◌&&◌, ◌||◌, or-false, false≢true}
use mathlib.Core.List.{List, [], ◌∷◌, Memᴰ}
use mathlib.Core.Logic.{◌⊎◌, inl, inr, ◌≢◌}
use mathlib.Core.Path.{◌≡◌, refl, sym, ap, ◌∙◌}
use native.Mathlib.Decide.{ℕ_discrete}
use native.Mathlib.Omega.{arith}
use lib.Dec.{eqb}
use lib.ListN.{length, get_or, replicate, get_or-replicate, length-set}
use lib.Seq.{get_or-set_same, get_or-set_other}
use borrow.Author.Tests.{eqb-true, eq-eqb}
use Rattle.order.specs.declared.Pair.{Pair}
use Rattle.order.specs.Table.{no_row, alone, row_at, joined, linked, row_up_to, label_row, rows_below, entry_at}
use Rattle.order.proofs.Lists.{get_d_replicate_all, or_yes, yes_or, or_yes_right, and_left, and_right}

-- the row of one label alone: 64 entries, yes of that label and of no other
pub alone_length : (m : ℕ) → length (alone m) ≡ 64
alone_length m = simp length-set

pub alone_self : (m : ℕ) → m < 64 → get_or (alone m) m false ≡ true
alone_self m h = get_or-set_same no_row m true false h

pub alone_only : (m l : ℕ) → get_or (alone m) l false ≡ true → l ≡ m
alone_only m l h = go (ℕ_discrete l m)
  where
    go : Dec (l ≡ m) → l ≡ m
    go (yes e) = e
    go (no ne) = absurd (false≢true (sym (get_d_replicate_all 64 l false) ∙ (rw (get_or-set_other no_row m l) at h)))

-- no row has a yes before the first label is gone through
pub none_yet : (k m l : ℕ) → entry_at (replicate k no_row) m l ≡ false
none_yet zero m l = refl
none_yet (suc k) zero l = get_d_replicate_all 64 l false
none_yet (suc k) (suc m) l = none_yet k m l

-- an entry of two rows in one
pub joined_at : (r s : List Bool) (i : ℕ) → get_or (joined r s) i false ≡ (get_or r i false || get_or s i false)
unfolding joined
joined_at [] s i = refl
joined_at (a ∷ r) [] zero = sym (or-false a)
joined_at (a ∷ r) [] (suc i) = sym (or-false (get_or r i false))
joined_at (a ∷ r) (b ∷ s) zero = refl
joined_at (a ∷ r) (b ∷ s) (suc i) = joined_at r s i

pub joined_length : (r s : List Bool) → length r ≡ length s → length (joined r s) ≡ length r
unfolding joined
joined_length [] [] e = refl
joined_length [] (b ∷ s) e = absurd (omega arith)
joined_length (a ∷ r) [] e = refl
joined_length (a ∷ r) (b ∷ s) e = ap suc (joined_length r s (omega arith))

-- a pair of the list leads from its upper label down to its lower, and nothing else does
pub linked_mem : (pairs : List Pair) {p : Pair} → Memᴰ p pairs → linked pairs p.lower p.upper ≡ true
unfolding linked
linked_mem [] {p = p} x' = elim x' [ ]
linked_mem (q ∷ ps) {p} (Memᴰ.head e) = rw (← e, eq-eqb p.lower p.lower refl, eq-eqb p.upper p.upper refl) refl
linked_mem (q ∷ ps) {p} (Memᴰ.tail h) = or_yes_right (eqb q.lower p.lower && eqb q.upper p.upper) (linked ps p.lower p.upper) (linked_mem ps h)

pub mem_linked : (pairs : List Pair) (m u : ℕ) → linked pairs m u ≡ true → (p : Pair) × Memᴰ p pairs × (p.lower ≡ m) × (p.upper ≡ u)
unfolding linked
mem_linked [] m u e = absurd (false≢true e)
mem_linked (p ∷ ps) m u e = go (or_yes (eqb p.lower m && eqb p.upper u) (linked ps m u) e) (mem_linked ps m u)
  where
    go : ((eqb p.lower m && eqb p.upper u) ≡ true) ⊎ (linked ps m u ≡ true)
        → (linked ps m u ≡ true → (q : Pair) × Memᴰ q ps × (q.lower ≡ m) × (q.upper ≡ u))
        → (q : Pair) × Memᴰ q (p ∷ ps) × (q.lower ≡ m) × (q.upper ≡ u)
    go (inl t) rest =
        (p, Memᴰ.head refl, eqb-true p.lower m (and_left (eqb p.lower m) (eqb p.upper u) t), eqb-true p.upper u (and_right (eqb p.lower m) (eqb p.upper u) t))
    go (inr t) rest = let r = rest t in (r.0, Memᴰ.tail r.1, r.2, r.3)

-- What the rows before it add to a row of label m.
module _ (rows : List (List Bool)) (leads : ℕ → Bool) (m l : ℕ) where
  -- one label more: its row is added if it leads down to m
  abbrev pub With : Bool → List Bool → ℕ → List Bool
  With b row u = cond b (joined row (row_at rows u)) row

  with_keeps : (b : Bool) (row : List Bool) (u : ℕ) → get_or row l false ≡ true → get_or (With b row u) l false ≡ true
  with_keeps true row u h = joined_at row (row_at rows u) l ∙ yes_or (get_or row l false) (get_or (row_at rows u) l false) h
  with_keeps false row u h = h

  -- a label is at or below itself
  pub row_self : m < 64 → l ≡ m → (k : ℕ) → get_or (row_up_to rows leads m k) l false ≡ true
  unfolding row_up_to
  row_self h e zero = rw e (alone_self m h)
  row_self h e (suc u) = with_keeps (leads u) (row_up_to rows leads m u) u (row_self h e u)

  -- and at or below what is above a label that leads down to it
  pub row_adds : (k u : ℕ) → u < k → leads u ≡ true → entry_at rows u l ≡ true → get_or (row_up_to rows leads m k) l false ≡ true
  unfolding row_up_to
  row_adds zero u h e b = absurd (omega arith)
  row_adds (suc v) u h e b = go (ℕ_discrete u v) (λ lt. row_adds v u lt e b)
    where
      go : Dec (u ≡ v) → (u < v → get_or (row_up_to rows leads m v) l false ≡ true) → get_or (With (leads v) (row_up_to rows leads m v) v) l false ≡ true
      go (yes same) before =
          rw (← same, e)
          (joined_at (row_up_to rows leads m u) (row_at rows u) l ∙ or_yes_right (get_or (row_up_to rows leads m u) l false) (get_or (row_at rows u) l false) b)
      go (no ne) before = with_keeps (leads v) (row_up_to rows leads m v) v (before (omega arith))

  -- and at or below nothing else
  abbrev pub Source : ℕ → Type 0
  Source k = (l ≡ m) ⊎ ((u : ℕ) × (u < k) × (leads u ≡ true) × (entry_at rows u l ≡ true))

  pub row_only : (k : ℕ) → get_or (row_up_to rows leads m k) l false ≡ true → Source k
  unfolding row_up_to
  row_only zero h = inl (alone_only m l h)
  row_only (suc u) h = go (leads u) refl h (row_only u)
    where
      row : List Bool
      row = row_up_to rows leads m u

      later : Source u → Source (suc u)
      later (inl e) = inl e
      later (inr s) = inr (s.0, omega (arith, s.1), s.2, s.3)

      go : (b : Bool) → leads u ≡ b → get_or (With b row u) l false ≡ true → (get_or row l false ≡ true → Source u) → Source (suc u)
      go false e h before = later (before h)
      go true e h before = from (or_yes (get_or row l false) (get_or (row_at rows u) l false) (sym (joined_at row (row_at rows u) l) ∙ h))
        where
          from : (get_or row l false ≡ true) ⊎ (entry_at rows u l ≡ true) → Source (suc u)
          from (inl a) = later (before a)
          from (inr b) = inr (u, omega arith, e, b)

-- rows that ask two functions with the same answers
pub row_agrees : (rows : List (List Bool)) (leads leads' : ℕ → Bool) (m k : ℕ) → ((u : ℕ) → u < k → leads u ≡ leads' u) → row_up_to rows leads m k ≡ row_up_to rows leads' m k
unfolding row_up_to
row_agrees rows leads leads' m zero h = refl
row_agrees rows leads leads' m (suc u) h = rw (h u (omega arith), row_agrees rows leads leads' m u (λ v lt. h v (omega arith))) refl

-- 64 rows of 64 entries
pub record Square (rows : List (List Bool)) : Type 0 where
  pub height : length rows ≡ 64
  pub width : (m : ℕ) → m < 64 → length (get_or rows m []) ≡ 64

module _ (rows : List (List Bool)) (square : Square rows) (leads : ℕ → Bool) (m : ℕ) where
  row_length : (k : ℕ) → k ≤ 64 → length (row_up_to rows leads m k) ≡ 64
  unfolding row_up_to
  row_length zero h = alone_length m
  row_length (suc u) h = go (leads u) (row_length u (omega arith))
    where
      go : (b : Bool) → length (row_up_to rows leads m u) ≡ 64 → length (cond b (joined (row_up_to rows leads m u) (row_at rows u)) (row_up_to rows leads m u)) ≡ 64
      go true e = joined_length (row_up_to rows leads m u) (row_at rows u) (e ∙ sym (square.width u (omega arith))) ∙ e
      go false e = e

  pub label_row_length : m ≤ 64 → length (label_row rows leads m) ≡ 64
  unfolding label_row
  label_row_length h = row_length m h

-- The rows of the labels below n, where leads m u says whether label u leads down to label m.
module _ (leads : ℕ → ℕ → Bool) where
  pub rows_below_height : (n : ℕ) → length (rows_below n leads) ≡ 64
  unfolding rows_below
  rows_below_height zero = refl
  rows_below_height (suc n) = length-set (rows_below n leads) n (label_row (rows_below n leads) (leads n) n) ∙ rows_below_height n

  -- the row that is made last, and any other
  pub made : (n : ℕ) → n < 64 → get_or (rows_below (suc n) leads) n [] ≡ label_row (rows_below n leads) (leads n) n
  unfolding rows_below
  made n h = get_or-set_same (rows_below n leads) n (label_row (rows_below n leads) (leads n) n) [] (omega (arith, rows_below_height n))

  pub kept : (n m : ℕ) → m ≢ n → get_or (rows_below (suc n) leads) m [] ≡ get_or (rows_below n leads) m []
  unfolding rows_below
  kept n m ne = get_or-set_other (rows_below n leads) n m (label_row (rows_below n leads) (leads n) n) [] ne

  pub rows_below_square : (n : ℕ) → n ≤ 64 → Square (rows_below n leads)
  unfolding rows_below
  rows_below_square zero h = record { height = refl; width = λ m hm. ap length (get_or-replicate 64 m no_row [] hm) }
  rows_below_square (suc n) h = record { height = rows_below_height (suc n); width = λ m hm. go (rows_below_square n (omega arith)) m hm (ℕ_discrete m n) }
    where
      go : Square (rows_below n leads) → (m : ℕ) → m < 64 → Dec (m ≡ n) → length (get_or (rows_below (suc n) leads) m []) ≡ 64
      go square m hm (yes e) = rw e (ap length (made n (omega arith)) ∙ label_row_length (rows_below n leads) square (leads n) n (omega arith))
      go square m hm (no ne) = ap length (kept n m ne) ∙ square.width m hm

  -- a row stays as it was made
  pub row_made : (n m : ℕ) → m < n → n ≤ 64 → get_or (rows_below n leads) m [] ≡ label_row (rows_below m leads) (leads m) m
  row_made zero m h hn = absurd (omega arith)
  row_made (suc n) m h hn = go (λ lt. row_made n m lt (omega arith)) (ℕ_discrete m n)
    where
      go : (m < n → get_or (rows_below n leads) m [] ≡ label_row (rows_below m leads) (leads m) m) → Dec (m ≡ n)
          → get_or (rows_below (suc n) leads) m [] ≡ label_row (rows_below m leads) (leads m) m
      go before (yes e) = rw e (made n (omega arith))
      go before (no ne) = kept n m ne ∙ before (omega arith)

  pub row_stays : (n m u : ℕ) → u < m → m ≤ n → n ≤ 64 → get_or (rows_below n leads) u [] ≡ get_or (rows_below m leads) u []
  row_stays n m u hu hm hn = row_made n u (omega arith) hn ∙ sym (row_made m u hu (omega arith))

-- rows that ask two functions with the same answers
pub rows_agree : (leads leads' : ℕ → ℕ → Bool) (n : ℕ) → n ≤ 64 → ((m u : ℕ) → m < 64 → u < 64 → leads m u ≡ leads' m u) → rows_below n leads ≡ rows_below n leads'
unfolding rows_below label_row
rows_agree leads leads' zero hn h = refl
rows_agree leads leads' (suc n) hn h =
    rw (rows_agree leads leads' n (omega arith) h, row_agrees (rows_below n leads') (leads n) (leads' n) n n (λ u lt. h n u (omega arith) (omega arith))) refl
