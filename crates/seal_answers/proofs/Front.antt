-- What is sealed follows from the policy's first 2,828 bytes, from the first 33 of the root secret, the first 13 of the nonce and the first 32,769 of the
-- text: longer ones are refused.
use Prim.Native.Nat.{ℕ, ◌+◌, ◌≤◌, ◌<◌}
use mathlib.Core.Bool.{Bool, true, false, cond}
use mathlib.Core.List.{List, ◌++◌}
use mathlib.Core.Logic.{inl, inr}
use mathlib.Core.Path.{◌≡◌, refl, sym, ap, ap₂, ◌∙◌}
use native.Mathlib.Omega.{arith}
use borrow.Author.Tests.{eqb-false}
use lib.Dec.{eqb}
use lib.ListN.{length, take, length-append}
use Rattle.buffers.proofs.Handed.{unless_refused, unless_left}
use Rattle.buffers.specs.Handed.{refused_written, written_unless, buffer_unless}
use Rattle.format.proofs.Bytes.{fronted}
use Rattle.issuer_answers.proofs.Front.{key_front, key_root_front}
use Rattle.issuer_answers.specs.Keys.{issuer_key_of}
use Rattle.issuer_answers.specs.declared.IssuerKey.{IssuerKey}
use Rattle.sealed_file.proofs.Rows.{text_22}
use Rattle.sealed_file.specs.Rows.{NoText}
use Rattle.sealed_file.specs.Sealed.{sealed_file, text_refusal}
use Rattle.seal_answers.specs.Rows.{Seals}
use Rattle.seal_answers.specs.Seal.{seal_refusal, label_sealed, sealed_of, file_after}

-- ---- the policy and the root secret: only the label's key is asked of them

module _ (a b name r s nonce text : List ℕ) (same : issuer_key_of a name r ≡ issuer_key_of b name s) where
  number_same : seal_refusal a name r nonce text ≡ seal_refusal b name s nonce text
  unfolding seal_refusal
  number_same = ap (λ (k : IssuerKey). cond (eqb k.refusal 0) (text_refusal nonce text) k.refusal) same

  file_same : label_sealed a name r nonce text ≡ label_sealed b name s nonce text
  unfolding label_sealed
  file_same = ap (λ (k : IssuerKey). sealed_file k.key name nonce text) same

  answer_same : (room : ℕ) → sealed_of a name r nonce text room ≡ sealed_of b name s nonce text room
  unfolding sealed_of
  answer_same room = ap₂ (λ (n : ℕ) (file : List ℕ). written_unless n file room) number_same file_same

  left_same : (out : List ℕ) → file_after a name r nonce text out ≡ file_after b name s nonce text out
  unfolding file_after
  left_same out = ap₂ (λ (n : ℕ) (file : List ℕ). buffer_unless n file out) number_same file_same

module _ (policy name root nonce text : List ℕ) (n : ℕ) where
  -- any front part of at least 2,828 bytes of the policy, and of at least 33 of the root secret
  pub sealed_front : 2828 ≤ n → (room : ℕ) → sealed_of policy name root nonce text room ≡ sealed_of (take n policy) name root nonce text room
  sealed_front enough = answer_same policy (take n policy) name root root nonce text (key_front n enough policy name root)

  pub file_front : 2828 ≤ n → (out : List ℕ) → file_after policy name root nonce text out ≡ file_after (take n policy) name root nonce text out
  file_front enough = left_same policy (take n policy) name root root nonce text (key_front n enough policy name root)

  pub sealed_root_front : 33 ≤ n → (room : ℕ) → sealed_of policy name root nonce text room ≡ sealed_of policy name (take n root) nonce text room
  sealed_root_front enough = answer_same policy policy name root (take n root) nonce text (key_root_front n enough policy name root)

  pub file_root_front : 33 ≤ n → (out : List ℕ) → file_after policy name root nonce text out ≡ file_after policy name (take n root) nonce text out
  file_root_front enough = left_same policy policy name root (take n root) nonce text (key_root_front n enough policy name root)

-- ---- the nonce and the text

-- all that cannot be sealed is refused alike
module _ (policy name root : List ℕ) where
  -- the number
  abbrev untextual : ℕ
  untextual = cond (eqb (issuer_key_of policy name root).refusal 0) 22 (issuer_key_of policy name root).refusal

  some : 0 < untextual
  some = go (eqb (issuer_key_of policy name root).refusal 0) refl
    where
      go : (b : Bool) → eqb (issuer_key_of policy name root).refusal 0 ≡ b → 0 < cond b 22 (issuer_key_of policy name root).refusal
      go true e = omega arith
      go false e = let ne = eqb-false (issuer_key_of policy name root).refusal 0 e in omega (arith, ne)

  module _ (nonce text : List ℕ) (none : NoText nonce text) where
    number_22 : seal_refusal policy name root nonce text ≡ untextual
    unfolding seal_refusal
    number_22 = rw (text_22 nonce text none)

    answer_22 : (room : ℕ) → sealed_of policy name root nonce text room ≡ refused_written untextual
    unfolding sealed_of
    answer_22 room =
        unless_refused (label_sealed policy name root nonce text) room (omega (arith, some, number_22)) ∙ ap refused_written number_22

    left_22 : (out : List ℕ) → file_after policy name root nonce text out ≡ out
    unfolding file_after
    left_22 out = unless_left (label_sealed policy name root nonce text) out (omega (arith, some, number_22))

-- any front part of at least 13 bytes of the nonce
module _ (policy name root : List ℕ) where
  module _ (text front back : List ℕ) (long : 13 ≤ length front) where
    whole : NoText (front ++ back) text
    whole = inl (λ e. omega (arith, length-append front back))

    part : NoText front text
    part = inl (λ e. omega arith)

    nonce_answer : (room : ℕ) → sealed_of policy name root (front ++ back) text room ≡ sealed_of policy name root front text room
    nonce_answer room = answer_22 policy name root (front ++ back) text whole room ∙ sym (answer_22 policy name root front text part room)

    nonce_left : (out : List ℕ) → file_after policy name root (front ++ back) text out ≡ file_after policy name root front text out
    nonce_left out = left_22 policy name root (front ++ back) text whole out ∙ sym (left_22 policy name root front text part out)

  -- and of at least 32,769 of the text
  module _ (nonce front back : List ℕ) (long : 32769 ≤ length front) where
    whole_text : NoText nonce (front ++ back)
    whole_text = inr (omega (arith, length-append front back))

    part_text : NoText nonce front
    part_text = inr (omega arith)

    text_answer : (room : ℕ) → sealed_of policy name root nonce (front ++ back) room ≡ sealed_of policy name root nonce front room
    text_answer room = answer_22 policy name root nonce (front ++ back) whole_text room ∙ sym (answer_22 policy name root nonce front part_text room)

    text_left : (out : List ℕ) → file_after policy name root nonce (front ++ back) out ≡ file_after policy name root nonce front out
    text_left out = left_22 policy name root nonce (front ++ back) whole_text out ∙ sym (left_22 policy name root nonce front part_text out)

  module _ (nonce text : List ℕ) (n : ℕ) where
    pub sealed_nonce_front : 13 ≤ n → (room : ℕ) → sealed_of policy name root nonce text room ≡ sealed_of policy name root (take n nonce) text room
    sealed_nonce_front enough room =
        fronted 13 (λ s. sealed_of policy name root s text room) (λ front back long. nonce_answer text front back long room) n enough nonce

    pub file_nonce_front : 13 ≤ n → (out : List ℕ) → file_after policy name root nonce text out ≡ file_after policy name root (take n nonce) text out
    file_nonce_front enough out =
        fronted 13 (λ s. file_after policy name root s text out) (λ front back long. nonce_left text front back long out) n enough nonce

    pub sealed_text_front : 32769 ≤ n → (room : ℕ) → sealed_of policy name root nonce text room ≡ sealed_of policy name root nonce (take n text) room
    sealed_text_front enough room =
        fronted 32769 (λ s. sealed_of policy name root nonce s room) (λ front back long. text_answer nonce front back long room) n enough text

    pub file_text_front : 32769 ≤ n → (out : List ℕ) → file_after policy name root nonce text out ≡ file_after policy name root nonce (take n text) out
    file_text_front enough out =
        fronted 32769 (λ s. file_after policy name root nonce s out) (λ front back long. text_left nonce front back long out) n enough text

-- ---- the buffer: 32,806 bytes suffice for every sealed file, so `row_16` does not hold of such a buffer

pub sealed_fits : (policy name root nonce text : List ℕ) (room : ℕ) → 32806 ≤ room → Seals policy name root nonce text → 38 + length text ≤ room
sealed_fits policy name root nonce text room enough h = omega (arith, h.short)
