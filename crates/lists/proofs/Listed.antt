-- Lists and tables by place: equal functions and members.
use Prim.Native.Nat.{ℕ, zero, suc, ◌-◌, ◌<◌}
use mathlib.Core.List.Memᴰ
use mathlib.Core.List.{List, [], ◌∷◌, ◌++◌, Memᴰ}
use mathlib.Core.Logic.{◌⊎◌, inl, inr, ◌≢◌}
use mathlib.Core.Path.{◌≡◌, refl, sym, ap, ◌∙◌}
use native.Mathlib.Decide.{ℕ_discrete}
use native.Mathlib.Omega.{arith}
use lib.ListN.{replicate, get_or, set, length-set}
use lib.Seq.{ext_get_or, get_or-set_same, get_or-set_other}
use Rattle.lists.specs.Tables.{listed, filled}
use Rattle.lists.proofs.Tables.{length_listed, get_d_listed}

-- lists and tables of two functions with the same values
pub listed_same : {A : Type 0} (f g : ℕ → A) (n : ℕ) → ((k : ℕ) → k < n → f k ≡ g k) → listed f n ≡ listed g n
unfolding listed
listed_same f g zero same = refl
listed_same f g (suc n) same = rw (same n (omega arith), listed_same f g n (λ k l. same k (omega arith)))

pub filled_same : {A : Type 0} (size : ℕ) (z : A) (f g : ℕ → A) (n : ℕ) → ((k : ℕ) → k < n → f k ≡ g k) → filled size z f n ≡ filled size z g n
filled_same {A} size z f g n same = ap (λ (l : List A). l ++ replicate (size - n) z) (listed_same f g n same)

-- a store into a list by place: the list of a function that differs there alone
pub listed_set : {A : Type 0} (f g : ℕ → A) (n i : ℕ) (v : A) → i < n → g i ≡ v → ((k : ℕ) → k < n → k ≢ i → g k ≡ f k) → set (listed f n) i v ≡ listed g n
listed_set {A} f g n i v h here away =
    ext_get_or v (set (listed f n) i v) (listed g n) (length-set (listed f n) i v ∙ length_listed f n ∙ sym (length_listed g n))
    (λ k lt. at k (omega (arith, length-set (listed f n) i v, length_listed f n)))
  where
    at : (k : ℕ) → k < n → get_or (set (listed f n) i v) k v ≡ get_or (listed g n) k v
    at k lt = go (ℕ_discrete k i)
      where
        go : Dec (k ≡ i) → get_or (set (listed f n) i v) k v ≡ get_or (listed g n) k v
        go (yes e) = rw e (get_or-set_same (listed f n) i v v (omega (arith, length_listed f n)) ∙ sym (get_d_listed g n i v h ∙ here))
        go (no ne) = get_or-set_other (listed f n) i k v v ne ∙ get_d_listed f n k v lt ∙ sym (away k lt ne) ∙ sym (get_d_listed g n k v lt)

-- the members of a list by place
module _ {A : Type 0} (f : ℕ → A) where
  pub listed_mem : (n k : ℕ) → k < n → Memᴰ (f k) (listed f n)
  unfolding listed
  listed_mem zero k l = absurd (omega arith)
  listed_mem (suc n) k l = go (ℕ_discrete k n) (λ h. listed_mem n k h)
    where
      go : Dec (k ≡ n) → (k < n → Memᴰ (f k) (listed f n)) → Memᴰ (f k) (listed f n ++ (f n ∷ []))
      go (yes e) rest = Memᴰ.append_right (listed f n) (Memᴰ.head (ap f e))
      go (no d) rest = Memᴰ.append_left (f n ∷ []) (rest (omega arith))

  pub mem_listed : (n : ℕ) {a : A} → Memᴰ a (listed f n) → (k : ℕ) × (k < n) × (a ≡ f k)
  unfolding listed
  mem_listed zero m = absurd (Memᴰ.not-nil m)
  mem_listed (suc n) {a} m = go (Memᴰ.append_cases (listed f n) m) (λ h. mem_listed n h)
    where
      go : Memᴰ a (listed f n) ⊎ Memᴰ a (f n ∷ []) → (Memᴰ a (listed f n) → (k : ℕ) × (k < n) × (a ≡ f k))
          → (k : ℕ) × (k < suc n) × (a ≡ f k)
      go (inl h) rest = let r = rest h in (r.0, omega (arith, r.1), r.2)
      go (inr h) rest = (n, omega arith, Memᴰ.eq_of_singleton h)
