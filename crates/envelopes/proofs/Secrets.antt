-- Laws of secrets: the top has the root secret, a child's secret is made from its parent's, and each has 32 bytes.
use Prim.Native.Nat.{ℕ, zero, suc, ◌≤◌, ◌<◌}
use mathlib.Core.Bool.{Bool, true, false, cond}
use mathlib.Core.List.{List}
use mathlib.Core.Logic.{◌⊎◌, inl, inr, ◌≢◌}
use mathlib.Core.Path.{◌≡◌, refl, sym, ap, ◌∙◌}
use native.Mathlib.Omega.{arith}
use lib.Dec.{eqb}
use lib.ListN.{length}
use borrow.Author.Tests.{eq-eqb, ne_eqb}
use Rattle.hmac.proofs.Secrets.{child_length}
use Rattle.hmac.specs.Secrets.{child_secret}
use Rattle.trees.proofs.Order.{is_top, above_lower}
use Rattle.trees.specs.Order.{Order}
use Rattle.trees.specs.Trees.{top, Tree}
use Rattle.envelopes.specs.Secrets.{secret_from, secret_of}

-- the labels up to m, the top aside, have parents with smaller numbers
abbrev pub Falls : (parent : ℕ → ℕ) (m : ℕ) → Type 0
Falls parent m = (i : ℕ) → i ≤ m → i ≢ top → parent i < i

-- as in every tree
pub tree_falls : {n : ℕ} {R : ℕ → ℕ → Type 0} {le : ℕ → ℕ → Bool} {parent : ℕ → ℕ} → Order n R le → Tree n R parent → (m : ℕ) → m < n → Falls parent m
tree_falls {n} O T m h i l ne = let hi : i < n = omega arith in above_lower O hi (T.hangs i hi ne)

module _ (name : ℕ → List ℕ) (parent : ℕ → ℕ) (root : List ℕ) where
  secret_stop : (steps m : ℕ) → m ≡ top → secret_from name parent root steps m ≡ root
  unfolding secret_from
  secret_stop zero m e = refl
  secret_stop (suc steps) m e = rw (eq-eqb m top e)

  -- m steps are enough, and more change nothing
  pub secret_enough : (a b m : ℕ) → m ≤ a → m ≤ b → Falls parent m → secret_from name parent root a m ≡ secret_from name parent root b m
  unfolding secret_from
  secret_enough zero b m ha hb falls = let e : m ≡ top = omega arith in secret_stop 0 m e ∙ sym (secret_stop b m e)
  secret_enough (suc a) zero m ha hb falls = let e : m ≡ top = omega arith in secret_stop (suc a) m e ∙ sym (secret_stop 0 m e)
  secret_enough (suc a) (suc b) m ha hb falls =
      go (is_top m) (λ l. secret_enough a b (parent m) (omega arith) (omega arith) (λ i h ne. falls i (omega arith) ne))
    where
      go : (m ≡ top) ⊎ (m ≢ top) → (parent m < m → secret_from name parent root a (parent m) ≡ secret_from name parent root b (parent m))
          → secret_from name parent root (suc a) m ≡ secret_from name parent root (suc b) m
      go (inl e) ih = secret_stop (suc a) m e ∙ sym (secret_stop (suc b) m e)
      go (inr ne) ih = rw (ne_eqb m top ne) (cc (ih (falls m (omega arith) ne)))

  -- "The top's secret is the root secret"
  pub secret_top : secret_of name parent root top ≡ root
  unfolding secret_of
  secret_top = secret_stop top top refl

  -- "A child's secret is F(parent's secret, child's name)"
  pub secret_child : (m : ℕ) → m ≢ top → Falls parent m → secret_of name parent root m ≡ child_secret (secret_of name parent root (parent m)) (name m)
  unfolding secret_of secret_from
  secret_child zero ne falls = absurd (ne refl)
  secret_child (suc m) ne falls =
      let p : ℕ = parent (suc m) in
      let l : p < suc m = falls (suc m) (omega arith) ne in
      let made : List ℕ → List ℕ = λ s. child_secret s (name (suc m)) in
      ap (λ (t : Bool). cond t root (made (secret_from name parent root m p))) (ne_eqb (suc m) top ne)
      ∙ ap made (secret_enough m p p (omega arith) (omega arith) (λ i h k. falls i (omega arith) k))

  -- "32 bytes"
  pub secret_length : length root ≡ 32 → (m : ℕ) → length (secret_of name parent root m) ≡ 32
  unfolding secret_of secret_from
  secret_length h m = from m m
    where
      from : (steps m : ℕ) → length (secret_from name parent root steps m) ≡ 32
      from zero m = h
      from (suc steps) m = go (eqb m top)
        where
          go : (t : Bool) → length (cond t root (child_secret (secret_from name parent root steps (parent m)) (name m))) ≡ 32
          go true = h
          go false = child_length (secret_from name parent root steps (parent m)) (name m)
