-- The order's test and the order that is meant, used one for the other; the top among the labels.
use Prim.Native.Nat.{ℕ, ◌≤◌, ◌<◌}
use mathlib.Core.Path.{◌≡◌, sym}
use mathlib.Core.Logic.{◌⊎◌, inl, inr, ◌≢◌, ◌↔◌}
use mathlib.Core.Bool.{Bool, true, false}
use native.Mathlib.Omega.{arith}
use lib.Dec.{eqb}
use borrow.Author.Tests.{eqb-true, eqb-false}
use Rattle.trees.specs.Trees.{top, Above}
use Rattle.trees.specs.Order.{Order}
use Rattle.trees.proofs.Lists.{answers}

-- a label is the top or not
pub is_top : (m : ℕ) → (m ≡ top) ⊎ (m ≢ top)
is_top m = go (answers (eqb m top))
  where
    go : (eqb m top ≡ true) ⊎ (eqb m top ≡ false) → (m ≡ top) ⊎ (m ≢ top)
    go (inl e) = inl (eqb-true m top e)
    go (inr e) = inr (eqb-false m top e)

module _ {n : ℕ} {R : ℕ → ℕ → Type 0} {le : ℕ → ℕ → Bool} (O : Order n R le) where
  pub test_yes : {m l : ℕ} → m < n → l < n → R m l → le m l ≡ true
  test_yes {m} {l} hm hl r = (O.tested m l hm hl).1 r

  pub test_says : {m l : ℕ} → m < n → l < n → le m l ≡ true → R m l
  test_says {m} {l} hm hl e = (O.tested m l hm hl).0 e

  pub test_no : {m l : ℕ} → m < n → l < n → ¬ R m l → le m l ≡ false
  test_no {m} {l} hm hl h = go (answers (le m l))
    where
      go : (le m l ≡ true) ⊎ (le m l ≡ false) → le m l ≡ false
      go (inl e) = absurd (h (test_says hm hl e))
      go (inr e) = e

  -- labels at or below each other are the same
  pub antisymmetric : {m l : ℕ} → m < n → l < n → R m l → R l m → m ≡ l
  antisymmetric {m} {l} hm hl r s = omega (arith, O.upper m l hm hl r, O.upper l m hl hm s)

  -- only the top has the top at or below it
  pub over_top : {l : ℕ} → l < n → R top l → l ≡ top
  over_top {l} hl r = omega (arith, O.upper top l O.some hl r)

  -- the top stands strictly above every other label
  pub top_above : {m : ℕ} → m < n → m ≢ top → Above n R top m
  top_above {m} hm ne = record { label = O.some; other = λ e. ne (sym e); over = O.under m hm }

  -- a label strictly above has the smaller number
  pub above_lower : {p m : ℕ} → m < n → Above n R p m → p < m
  above_lower {p} {m} hm a = let u : p ≤ m = O.upper m p hm a.label a.over in omega (arith, a.other)

  -- and is found by two tests
  pub above_tested : {p m : ℕ} → m < n → Above n R p m ↔ ((p < m) × (le m p ≡ true))
  above_tested {p} {m} hm = (
    λ a. (above_lower hm a, test_yes hm a.label a.over),
    λ t. let hp : p < n = omega (arith, t.0) in record { label = hp; other = λ e. omega (arith, t.0); over = test_says hm hp t.1 },
  )

  -- and has not the lower label at or above it
  pub above_strict : {p m : ℕ} → m < n → Above n R p m → ¬ R p m
  above_strict {p} {m} hm a r = a.other (antisymmetric a.label hm r a.over)
