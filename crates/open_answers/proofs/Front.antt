-- What is opened follows from the envelope's first 2,742 bytes, and from the first 32,807 of the sealed file: a longer one is refused.
use Prim.Native.Nat.{ℕ, ◌≤◌, ◌<◌}
use mathlib.Core.Bool.{Bool, true, false, cond}
use mathlib.Core.List.{List, ◌++◌}
use mathlib.Core.Path.{◌≡◌, refl, sym, ap, ap₂, ◌∙◌}
use native.Mathlib.Omega.{arith}
use borrow.Author.Tests.{eqb-false, ne_eqb}
use lib.Dec.{eqb}
use lib.ListN.{length, take, length-append}
use Rattle.buffers.proofs.Handed.{unless_refused, unless_left}
use Rattle.buffers.specs.Handed.{refused_written, written_unless, buffer_unless}
use Rattle.envelope_file.proofs.Front.{contents_front, derived_front}
use Rattle.envelope_file.specs.Whole.{envelope_refusal}
use Rattle.envelope_file.specs.declared.Contents.{Contents}
use Rattle.envelope_file.specs.declared.Derived.{Derived}
use Rattle.format.proofs.Bytes.{fronted}
use Rattle.sealed_file.proofs.Rows.{sealed_22}
use Rattle.sealed_file.specs.Rows.{long}
use Rattle.sealed_file.specs.Sealed.{name_in, text_length, sealed_refusal, text_in}
use Rattle.open_answers.specs.Open.{key_for, unopened, unread, open_refusal, opened_of, text_after}
use Rattle.open_answers.specs.Rows.{Opens}

-- ---- the envelope: only its refusal and the label's key are asked of it

module _ (envelope file : List ℕ) (n : ℕ) (enough : 2742 ≤ n) where
  abbrev front : List ℕ
  front = take n envelope

  key_same : key_for envelope file ≡ key_for front file
  unfolding key_for
  key_same = ap (λ (d : Derived). d.key) (derived_front n enough envelope (name_in file))

  unopened_same : unopened envelope file ≡ unopened front file
  unfolding unopened
  unopened_same =
      ap₂ (λ (c : Contents) (d : Derived). cond (eqb c.refusal 0) (cond (eqb (sealed_refusal file) 0) d.refusal (sealed_refusal file)) c.refusal)
      (contents_front n enough envelope) (derived_front n enough envelope (name_in file))

  number_same : (room : ℕ) → open_refusal envelope file room ≡ open_refusal front file room
  unfolding open_refusal
  number_same room = ap₂ (λ (u : ℕ) (key : List ℕ). cond (eqb u 0) (unread key file room) u) unopened_same key_same

  pub opened_front : (room : ℕ) → opened_of envelope file room ≡ opened_of (take n envelope) file room
  unfolding opened_of
  opened_front room = ap₂ (λ (u : ℕ) (key : List ℕ). written_unless u (text_in key file) room) (number_same room) key_same

  pub text_front : (out : List ℕ) → text_after envelope file out ≡ text_after (take n envelope) file out
  unfolding text_after
  text_front out = ap₂ (λ (u : ℕ) (key : List ℕ). buffer_unless u (text_in key file) out) (number_same (length out)) key_same

-- ---- the sealed file

-- all that are too long are refused alike
module _ (envelope : List ℕ) where
  -- the number
  abbrev overlong : ℕ
  overlong = cond (eqb (envelope_refusal envelope) 0) 22 (envelope_refusal envelope)

  some : 0 < overlong
  some = go (eqb (envelope_refusal envelope) 0) refl
    where
      go : (b : Bool) → eqb (envelope_refusal envelope) 0 ≡ b → 0 < cond b 22 (envelope_refusal envelope)
      go true e = omega arith
      go false e = let ne = eqb-false (envelope_refusal envelope) 0 e in omega (arith, ne)

  module _ (file : List ℕ) (above : 32807 ≤ length file) where
    unopened_long : unopened envelope file ≡ overlong
    unfolding unopened
    unopened_long = rw (sealed_22 file (long (omega arith)))

    number_long : (room : ℕ) → open_refusal envelope file room ≡ overlong
    unfolding open_refusal
    number_long room = rw (ne_eqb (unopened envelope file) 0 (λ e. omega (arith, some, unopened_long))) unopened_long

    answer_long : (room : ℕ) → opened_of envelope file room ≡ refused_written overlong
    unfolding opened_of
    answer_long room =
        unless_refused (text_in (key_for envelope file) file) room (omega (arith, some, number_long room)) ∙ ap refused_written (number_long room)

    left_long : (out : List ℕ) → text_after envelope file out ≡ out
    unfolding text_after
    left_long out = unless_left (text_in (key_for envelope file) file) out (omega (arith, some, number_long (length out)))

  -- any front part of at least 32,807 bytes
  module _ (front back : List ℕ) (above : 32807 ≤ length front) where
    longer : 32807 ≤ length (front ++ back)
    longer = omega (arith, length-append front back)

    answer_same : (room : ℕ) → opened_of envelope (front ++ back) room ≡ opened_of envelope front room
    answer_same room = answer_long (front ++ back) longer room ∙ sym (answer_long front above room)

    left_same : (out : List ℕ) → text_after envelope (front ++ back) out ≡ text_after envelope front out
    left_same out = left_long (front ++ back) longer out ∙ sym (left_long front above out)

  module _ (file : List ℕ) (n : ℕ) (enough : 32807 ≤ n) where
    pub opened_file_front : (room : ℕ) → opened_of envelope file room ≡ opened_of envelope (take n file) room
    opened_file_front room = fronted 32807 (λ s. opened_of envelope s room) (λ front back above. answer_same front back above room) n enough file

    pub text_file_front : (out : List ℕ) → text_after envelope file out ≡ text_after envelope (take n file) out
    text_file_front out = fronted 32807 (λ s. text_after envelope s out) (λ front back above. left_same front back above out) n enough file

-- ---- the buffer: 32,768 bytes suffice for every text, so `row_16` does not hold of such a buffer

pub opened_fits : (envelope file : List ℕ) (room : ℕ) → 32768 ≤ room → Opens envelope file → text_length file ≤ room
unfolding text_length
opened_fits envelope file room enough h = omega (arith, h.sealed.few)
