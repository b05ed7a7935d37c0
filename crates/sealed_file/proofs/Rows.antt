-- 22 and 23 are given exactly when their words hold.
use Prim.Native.Nat.{ℕ, ◌≤◌}
use mathlib.Core.Bool.{Bool, true, false, cond}
use mathlib.Core.List.{List}
use mathlib.Core.Logic.{◌≢◌, ◌⊎◌, inl, inr}
use mathlib.Core.Path.{◌≡◌, refl, sym, ap, ◌∙◌}
use native.Mathlib.Omega.{arith}
use borrow.Author.Tests.{eq-eqb, ne_eqb, eqb-true, eqb-false, lt-ltb, le-ltb, ltb-true, ltb-false}
use lib.Dec.{eqb, ltb}
use lib.ListN.{length}
use Rattle.format.proofs.Bytes.{same_eq, same_true, differ, same?}
use Rattle.format.specs.Bytes.{bytes_at, same_bytes}
use Rattle.format.specs.Marks.{SM}
use Rattle.sealed_file.specs.Rows.{NotSealed, short, long, no_mark, Sealed, NoText}
use Rattle.sealed_file.specs.Sealed.{tag_in, sealed_refusal, text_refusal, tag_for, tag_holds}

module _ (file : List ℕ) where
  -- a file is sealed or not
  pub sealed_or_not : Sealed file ⊎ NotSealed file
  sealed_or_not = go (ltb (length file) 38) refl
    where
      marked : 38 ≤ length file → length file ≤ 32806 → Dec (bytes_at file 0 2 ≡ SM) → Sealed file ⊎ NotSealed file
      marked a b (yes e) = inl (record { enough = a; few = b; mark = e })
      marked a b (no ne) = inr (no_mark ne)

      ends : 38 ≤ length file → (b : Bool) → ltb 32806 (length file) ≡ b → Sealed file ⊎ NotSealed file
      ends a true e = inr (long (ltb-true 32806 (length file) e))
      ends a false e = marked a (ltb-false 32806 (length file) e) (same? (bytes_at file 0 2) SM)

      go : (b : Bool) → ltb (length file) 38 ≡ b → Sealed file ⊎ NotSealed file
      go true e = inr (short (ltb-true (length file) 38 e))
      go false e = ends (ltb-false (length file) 38 e) (ltb 32806 (length file)) refl

  pub sealed_none : Sealed file → sealed_refusal file ≡ 0
  unfolding sealed_refusal
  sealed_none h = rw (le-ltb (length file) 38 h.enough, le-ltb 32806 (length file) h.few, same_true (bytes_at file 0 2) SM h.mark)

  pub sealed_22 : NotSealed file → sealed_refusal file ≡ 22
  unfolding sealed_refusal
  sealed_22 (short h) = rw (lt-ltb (length file) 38 h)
  sealed_22 (long h) = rw (le-ltb (length file) 38 (omega arith), lt-ltb 32806 (length file) h)
  sealed_22 (no_mark ne) = go (ltb (length file) 38) (ltb 32806 (length file))
    where
      go : (a b : Bool) → ◌≡◌ {A = ℕ} (cond a 22 (cond b 22 (cond (same_bytes (bytes_at file 0 2) SM) 0 22))) 22
      go true b = refl
      go false true = refl
      go false false = rw (differ (bytes_at file 0 2) SM ne)

module _ (nonce text : List ℕ) where
  pub text_none : length nonce ≡ 12 → length text ≤ 32768 → text_refusal nonce text ≡ 0
  unfolding text_refusal
  text_none e h = rw (eq-eqb (length nonce) 12 e, le-ltb 32768 (length text) h)

  pub text_22 : NoText nonce text → text_refusal nonce text ≡ 22
  unfolding text_refusal
  text_22 (inl ne) = rw (ne_eqb (length nonce) 12 ne)
  text_22 (inr h) = go (eqb (length nonce) 12)
    where
      go : (a : Bool) → ◌≡◌ {A = ℕ} (cond a (cond (ltb 32768 (length text)) 22 0) 22) 22
      go true = rw (lt-ltb 32768 (length text) h)
      go false = refl

  pub text_or_not : ((length nonce ≡ 12) × (length text ≤ 32768)) ⊎ NoText nonce text
  text_or_not = go (eqb (length nonce) 12) (ltb 32768 (length text)) refl refl
    where
      go : (a b : Bool) → eqb (length nonce) 12 ≡ a → ltb 32768 (length text) ≡ b → ((length nonce ≡ 12) × (length text ≤ 32768)) ⊎ NoText nonce text
      go true true e f = inr (inr (ltb-true 32768 (length text) f))
      go true false e f = inl (eqb-true (length nonce) 12 e, ltb-false 32768 (length text) f)
      go false b e f = inr (inl (eqb-false (length nonce) 12 e))

-- 23, "tag differs"
module _ (key file : List ℕ) where
  pub tag_same : tag_in file ≡ tag_for key file → tag_holds key file ≡ true
  unfolding tag_holds
  tag_same e = same_true (tag_for key file) (tag_in file) (sym e)

  pub tag_differs : tag_in file ≢ tag_for key file → tag_holds key file ≡ false
  unfolding tag_holds
  tag_differs ne = differ (tag_for key file) (tag_in file) (λ e. ne (sym e))

  pub tag-same? : Dec (tag_in file ≡ tag_for key file)
  tag-same? = same? (tag_in file) (tag_for key file)

-- the tests of the form, one after the other
module _ (file : List ℕ) where
  pub form_marked : 38 ≤ length file → length file ≤ 32806 → same_bytes (bytes_at file 0 2) SM ≡ true → 0 ≡ sealed_refusal file
  form_marked a b e = sym (sealed_none file (record { enough = a; few = b; mark = same_eq (bytes_at file 0 2) SM e }))

  pub form_unmarked : same_bytes (bytes_at file 0 2) SM ≡ false → 22 ≡ sealed_refusal file
  form_unmarked e = sym (sealed_22 file (no_mark (λ h. true_false (sym (same_true (bytes_at file 0 2) SM h) ∙ e))))
    where
      true_false : true ≡ false → ⊥
      true_false t = let z : ◌≡◌ {A = ℕ} 1 0 = ap (λ (b : Bool). cond b 1 0) t in absurd (omega arith)

  pub form_passed : sealed_refusal file ≡ 0 → Sealed file
  form_passed e = go (sealed_or_not file)
    where
      go : Sealed file ⊎ NotSealed file → Sealed file
      go (inl h) = h
      go (inr h) = let z : ◌≡◌ {A = ℕ} 22 0 = sym (sealed_22 file h) ∙ e in absurd (omega arith)
