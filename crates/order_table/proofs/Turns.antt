-- What one turn of a loop does, in the words of the table's definitions.
use Prim.Native.Nat.{ℕ, min, ◌+◌, ◌≤◌, ◌<◌}
use mathlib.Core.Bool.{Bool, true, false, ◌&&◌, ◌||◌, and-false, or-true, or-false, or_assoc}
use mathlib.Core.List.{List, [], ◌∷◌, ◌++◌}
use mathlib.Core.Path.{◌≡◌, refl, sym, ap, ◌∙◌}
use native.Mathlib.Decide.{ℕ_discrete}
use native.Mathlib.Numerals.{add-one}
use native.Mathlib.Omega.{arith}
use lib.Dec.{eqb}
use lib.ListN.{length, get_or, take, set, replicate, length-set}
use lib.Seq.{take-suc, take-suc-set, get_or-set_same, get_or-set_other}
use borrow.Author.Tests.{eq-eqb, ne_eqb}
use Rattle.order.specs.declared.Pair.{Pair}
use Rattle.order.specs.Table.{entry_at, no_row, row_at, joined, linked, Links, row_up_to, label_row, rows_below, order_table}
use Rattle.order.proofs.Lists.{same_take, take_min}
use Rattle.order.proofs.Table.{none_yet, joined_at, joined_length, Square, rows_below_square, rows_agree}

-- `joined`: one more entry filled, and all of them
pub joined_step : (r s both : List Bool) (i : ℕ) → length r ≡ 64 → length s ≡ 64 → length both ≡ 64 → i < 64
    → take i both ≡ take i (joined r s) → take (i + 1) (set both i (get_or r i false || get_or s i false)) ≡ take (i + 1) (joined r s)
joined_step r s both i hr hs hb hi e =
    let j = joined_length r s (hr ∙ sym hs) in
    rw (add-one, take-suc-set both i (get_or r i false || get_or s i false) (omega arith), take-suc (joined r s) i false (omega arith), joined_at r s i, e)

pub joined_whole : (r s both : List Bool) → length r ≡ 64 → length s ≡ 64 → length both ≡ 64
    → take 64 both ≡ take 64 (joined r s) → both ≡ joined r s
joined_whole r s both hr hs hb e = same_take 64 both (joined r s) hb (joined_length r s (hr ∙ sym hs) ∙ hr) e

-- `links`: one more pair gone through
abbrev hits : ℕ → ℕ → Pair → Bool
hits m u p = eqb p.lower m && eqb p.upper u

linked_more : (ps : List Pair) (p : Pair) (m u : ℕ) → linked (ps ++ (p ∷ [])) m u ≡ (linked ps m u || hits m u p)
unfolding linked
linked_more [] p m u = or-false (hits m u p)
linked_more (q ∷ ps) p m u = rw (linked_more ps p m u) (sym (or_assoc (hits m u q) (linked ps m u) (hits m u p)))

-- the table so far says which labels the first i pairs lead down from
pub record Linking (table : List (List Bool)) (over : List Pair) (i : ℕ) : Type 0 where
  pub square : Square table
  pub links : Links table (take i over)

-- before the first pair
pub no_links : (over : List Pair) → Linking (replicate 64 no_row) over 0
unfolding linked rows_below
no_links over = record { square = rows_below_square (linked over) 0 (omega arith); links = record { says = λ m u hm hu. none_yet 64 m u } }

module _ (table : List (List Bool)) (over : List Pair) (i : ℕ) (hi : i < length over) (so_far : Linking table over i) where
  abbrev pair : Pair
  pair = get_or over i (record { upper = 0; lower = 0 })

  next_pair : (m u : ℕ) → linked (take (i + 1) over) m u ≡ (linked (take i over) m u || hits m u pair)
  next_pair m u = rw (add-one, take-suc over i (record { upper = 0; lower = 0 }) hi) (linked_more (take i over) pair m u)

  -- a table whose entries are those so far, but for what the pair adds
  linking_more : (next : List (List Bool)) → Square next → ((m u : ℕ) → m < 64 → u < 64 → entry_at next m u ≡ (entry_at table m u || hits m u pair)) → Linking next over (i + 1)
  linking_more next square h = record {
    square = square;
    links = record { says = λ m u hm hu. h m u hm hu ∙ rw (so_far.links.says m u hm hu) (sym (next_pair m u)) };
  }

  -- a pair that leads past the table's ends
  passed_over : ((m u : ℕ) → m < 64 → u < 64 → hits m u pair ≡ false) → Linking table over (i + 1)
  passed_over h = linking_more table so_far.square (λ m u hm hu. rw (h m u hm hu) (sym (or-false (entry_at table m u))))

  pub upper_past : (u : ℕ) → u ≡ pair.upper → 64 ≤ u → Linking table over (i + 1)
  upper_past v e h = passed_over (λ m u hm hu. rw (← e, ne_eqb v u (λ q. omega arith)) (and-false (eqb pair.lower m)))

  pub lower_past : (l : ℕ) → l ≡ pair.lower → 64 ≤ l → Linking table over (i + 1)
  lower_past l e h = passed_over (λ m u hm hu. rw (← e, ne_eqb l m (λ q. omega arith)) refl)

  -- a pair within the table
  module _ (v l : ℕ) (ev : v ≡ pair.upper) (el : l ≡ pair.lower) (hv : v < 64) (hl : l < 64) where
    abbrev row : List Bool
    row = get_or table l []

    abbrev next : List (List Bool)
    next = set table l (set row v true)

    row_next : get_or next l [] ≡ set row v true
    row_next = get_or-set_same table l (set row v true) [] (omega (arith, so_far.square.height))

    next_square : Square next
    next_square = record { height = length-set table l (set row v true) ∙ so_far.square.height; width = λ m hm. go m hm (ℕ_discrete m l) }
      where
        go : (m : ℕ) → m < 64 → Dec (m ≡ l) → length (get_or next m []) ≡ 64
        go m hm (yes e) = rw e (ap length row_next ∙ length-set row v true ∙ so_far.square.width l hl)
        go m hm (no ne) = ap length (get_or-set_other table l m (set row v true) [] ne) ∙ so_far.square.width m hm

    pub linked_down : Linking next over (i + 1)
    linked_down = linking_more next next_square (λ m u hm hu. rw (← ev, ← el) (go m u hm hu (ℕ_discrete m l) (ℕ_discrete u v)))
      where
        go : (m u : ℕ) → m < 64 → u < 64 → Dec (m ≡ l) → Dec (u ≡ v) → entry_at next m u ≡ (entry_at table m u || (eqb l m && eqb v u))
        go m u hm hu (no ne) d =
            rw (ne_eqb l m (λ q. ne (sym q)), or-false (entry_at table m u))
            (ap (λ (r : List Bool). get_or r u false) (get_or-set_other table l m (set row v true) [] ne))
        go m u hm hu (yes e) (no ne) =
            rw (e, ne_eqb v u (λ q. ne (sym q)), and-false (eqb l l), or-false (entry_at table l u))
            (ap (λ (r : List Bool). get_or r u false) row_next ∙ get_or-set_other row v u true false ne)
        go m u hm hu (yes e) (yes f) =
            rw (e, f, eq-eqb l l refl, eq-eqb v v refl, or-true (entry_at table l v))
            (ap (λ (r : List Bool). get_or r v false) row_next ∙ get_or-set_same row v true false (omega (arith, so_far.square.width l hl)))

-- `label_row`: one more label gone through
module _ (rows : List (List Bool)) (leads : ℕ → Bool) (m u : ℕ) (row : List Bool) (so_far : row ≡ row_up_to rows leads m u) where
  pub label_added : (next : List Bool) → leads u ≡ true → next ≡ joined row (row_at rows u) → next ≡ row_up_to rows leads m (u + 1)
  unfolding row_up_to
  label_added next e en = rw (add-one, e, ← so_far) en

  pub label_left : leads u ≡ false → row ≡ row_up_to rows leads m (u + 1)
  unfolding row_up_to
  label_left e = rw (add-one, e) so_far

-- `order_table`: one more row made, and all of them
pub row_more : (rows : List (List Bool)) (row : List Bool) (leads : ℕ → ℕ → Bool) (n : ℕ) → rows ≡ rows_below n leads → row ≡ label_row rows (leads n) n
    → set rows n row ≡ rows_below (n + 1) leads
unfolding rows_below
row_more rows row leads n er e = rw (add-one, e, er) refl

pub rows_whole : (rows links : List (List Bool)) (over : List Pair) (labels pairs n k m : ℕ) → length over ≡ 512 → n ≡ min labels 64 → k ≡ min pairs 512
    → m ≡ n → Links links (take k over) → rows ≡ rows_below m (entry_at links) → rows ≡ order_table labels (take pairs over)
unfolding order_table
rows_whole rows links over labels pairs n k m ho en ek em L er =
    rw (er, em, en, ← take_min pairs 512 over ho, ← ek) (rows_agree (entry_at links) (linked (take k over)) (min labels 64) (omega arith) L.says)
