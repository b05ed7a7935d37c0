-- What is answered for a root secret: 15 and zeros exactly when it does not have 32 bytes; the text is not a name; a longer file's first 33 bytes decide.
use Prim.Native.Nat.{ℕ, ◌≤◌}
use mathlib.Core.List.{List, ◌++◌}
use mathlib.Core.Logic.{◌≢◌, ◌↔◌}
use mathlib.Core.Path.{◌≡◌, refl, sym, ap, ◌∙◌}
use native.Mathlib.Decide.{ℕ_discrete}
use native.Mathlib.Omega.{arith}
use borrow.Author.Tests.{eq-eqb, ne_eqb}
use lib.ListN.{length, take, length-append}
use lib.Seq.{length-take-le}
use Rattle.decimals.specs.Text.{bytes_of}
use Rattle.fingerprint.specs.Fingerprint.{fingerprint_text, made_fingerprint, refused_fingerprint, fingerprint_of}
use Rattle.fingerprint.specs.declared.RootFingerprint.{RootFingerprint}
use Rattle.format.proofs.Bytes.{fronted}
use Rattle.hmac.proofs.Laws.{hmac_length}
use Rattle.hmac.specs.Hmac.{hmac}

module _ (root : List ℕ) where
  pub fingerprint_made : length root ≡ 32 → fingerprint_of root ≡ made_fingerprint root
  unfolding fingerprint_of
  fingerprint_made e = rw (eq-eqb (length root) 32 e)

  pub fingerprint_refused : length root ≢ 32 → fingerprint_of root ≡ refused_fingerprint
  unfolding fingerprint_of
  fingerprint_refused ne = rw (ne_eqb (length root) 32 ne)

  pub refused_iff : ((fingerprint_of root).refusal ≡ 15) ↔ (length root ≢ 32)
  refused_iff = (there, λ ne. ap number (fingerprint_refused ne))
    where
      number : RootFingerprint → ℕ
      number f = f.refusal

      there : (fingerprint_of root).refusal ≡ 15 → length root ≢ 32
      there e whole = let z : ◌≡◌ {A = ℕ} 0 15 = sym (ap number (fingerprint_made whole)) ∙ e in omega arith

  -- 8 bytes in either case
  pub fingerprint_length : length (fingerprint_of root).bytes ≡ 8
  fingerprint_length = go (ℕ_discrete (length root) 32)
    where
      go : Dec (length root ≡ 32) → length (fingerprint_of root).bytes ≡ 8
      go (yes e) = rw (fingerprint_made e) (length-take-le 8 (hmac root fingerprint_text) (omega (arith, hmac_length root fingerprint_text)))
      go (no ne) = rw (fingerprint_refused ne)

-- the text is not a name, nor a name with a version
pub text_length_lem : length fingerprint_text ≡ 25
unfolding fingerprint_text bytes_of
text_length_lem = refl

pub no_name_lem : (message : List ℕ) → length message ≡ 8 → message ≢ fingerprint_text
no_name_lem message e same = omega (arith, text_length_lem, ap length same)

pub no_versioned_name : (message : List ℕ) → length message ≡ 10 → message ≢ fingerprint_text
no_versioned_name message e same = omega (arith, text_length_lem, ap length same)

-- the first 33 bytes decide, and so do more of them
longer_same : (front back : List ℕ) → 33 ≤ length front → fingerprint_of (front ++ back) ≡ fingerprint_of front
longer_same front back long =
    fingerprint_refused (front ++ back) (λ e. omega (arith, length-append front back)) ∙ sym (fingerprint_refused front (λ e. omega arith))

pub fingerprint_front : (n : ℕ) → 33 ≤ n → (root : List ℕ) → fingerprint_of root ≡ fingerprint_of (take n root)
fingerprint_front n enough root = fronted 33 fingerprint_of longer_same n enough root
