-- Laws of a search for the first place.
use Rattle.std.specs.Prelude.{None, Some}
use Prim.Native.Nat.{ℕ, zero, suc, ◌+◌, ◌-◌, ◌≤◌, ◌<◌}
use mathlib.Core.Bool.{Bool, true, false}
use mathlib.Core.Logic.{⊎_elim}
use mathlib.Core.Path.{◌≡◌, refl, sym, ap, ◌∙◌}
use native.Mathlib.Nat.{eq-or-lt_of_le, sub-zero}
use native.Mathlib.Omega.{arith}
use Rattle.format.specs.Search.{first_from}

-- what is known of a place that was found: it is one of those searched and has p, and none before it has
pub record FoundAt (p : ℕ → Bool) (i n k : ℕ) : Type 0 where
  pub from : i ≤ k
  pub below : k < i + n
  pub here : p k ≡ true
  pub before : (j : ℕ) → i ≤ j → j < k → p j ≡ false

module _ (p : ℕ → Bool) where
  pub first_none : (i : ℕ) → first_from p i 0 ≡ None
  unfolding first_from
  first_none i = refl

  pub first_hit : (i n : ℕ) → p i ≡ true → first_from p i (suc n) ≡ Some i
  unfolding first_from
  first_hit i n e = rw (e, first_from)

  pub first_miss : (i n : ℕ) → p i ≡ false → first_from p i (suc n) ≡ first_from p (i + 1) n
  unfolding first_from
  first_miss i n e = rw (e, first_from)

  -- a search that has come to place i of n
  pub first_start : (n : ℕ) → first_from p 0 n ≡ first_from p 0 (n - 0)
  first_start n = rw sub-zero

  pub hit_at : (i n : ℕ) → i < n → p i ≡ true → first_from p i (n - i) ≡ Some i
  hit_at i n l e =
      let left : n - i ≡ suc (n - (i + 1)) = omega arith in
      rw left (first_hit i (n - (i + 1)) e)

  pub miss_at : (i n : ℕ) → i < n → p i ≡ false → first_from p i (n - i) ≡ first_from p (i + 1) (n - (i + 1))
  miss_at i n l e =
      let left : n - i ≡ suc (n - (i + 1)) = omega arith in
      rw left (first_miss i (n - (i + 1)) e)

  pub none_at : (i n : ℕ) → i ≡ n → first_from p i (n - i) ≡ None
  none_at i n e =
      let left : n - i ≡ 0 = omega arith in
      rw left (first_none i)

  -- nothing found: no place searched has p
  pub not_found : (n i : ℕ) → first_from p i n ≡ None → (k : ℕ) → i ≤ k → k < i + n → p k ≡ false
  not_found zero i e k l h = absurd (omega arith)
  not_found (suc n) i e k l h = go (p i) refl (λ none more. not_found n (i + 1) none k more (omega arith))
    where
      go : (t : Bool) → p i ≡ t → (first_from p (i + 1) n ≡ None → i + 1 ≤ k → p k ≡ false) → p k ≡ false
      go true hit rest = let z : ◌≡◌ {A = ℕ} 0 1 = cc (first_hit i n hit) in absurd (omega arith)
      go false miss rest =
          ⊎_elim (λ same. ap p (sym same) ∙ miss) (λ more. rest (sym (first_miss i n miss) ∙ e) (omega arith)) (eq-or-lt_of_le l)

  -- a place found is the first that has p
  pub found_at : (n i k : ℕ) → first_from p i n ≡ Some k → FoundAt p i n k
  found_at zero i k e = let z : ◌≡◌ {A = ℕ} 0 1 = cc (first_none i) in absurd (omega arith)
  found_at (suc n) i k e = go (p i) refl (found_at n (i + 1) k)
    where
      go : (t : Bool) → p i ≡ t → (first_from p (i + 1) n ≡ Some k → FoundAt p (i + 1) n k) → FoundAt p i (suc n) k
      go true hit rest =
          let same : i ≡ k = cc (first_hit i n hit) in
          record {
            from = omega arith;
            below = omega arith;
            here = ap p (sym same) ∙ hit;
            before = λ j l h. absurd (omega arith);
          }
      go false miss rest =
          let r = rest (sym (first_miss i n miss) ∙ e) in
          record {
            from = omega arith;
            below = omega arith;
            here = r.here;
            before = λ j l h.
                ⊎_elim (λ same. ap p (sym same) ∙ miss) (λ more. r.before j (omega arith) h) (eq-or-lt_of_le l);
          }

-- searches that ask two functions with the same values
pub first_same : (p q : ℕ → Bool) (n i : ℕ) → ((k : ℕ) → k < i + n → p k ≡ q k) → first_from p i n ≡ first_from q i n
first_same p q zero i same = first_none p i ∙ sym (first_none q i)
first_same p q (suc n) i same = go (q i) refl (first_same p q n (i + 1) (λ k l. same k (omega arith)))
  where
    go : (t : Bool) → q i ≡ t → first_from p (i + 1) n ≡ first_from q (i + 1) n → first_from p i (suc n) ≡ first_from q i (suc n)
    go true e rest = first_hit p i n (same i (omega arith) ∙ e) ∙ sym (first_hit q i n e)
    go false e rest = first_miss p i n (same i (omega arith) ∙ e) ∙ rest ∙ sym (first_miss q i n e)
