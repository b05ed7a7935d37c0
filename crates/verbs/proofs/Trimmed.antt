-- A text without the spaces at its end, from its end on: the last byte is a space, is none, or is not there.
use Prim.Native.Nat.{ℕ, zero, suc, ◌-◌, ◌≤◌, ◌<◌}
use mathlib.Core.List.{List}
use mathlib.Core.Path.{◌≡◌, refl, sym, ◌∙◌}
use native.Mathlib.Omega.{arith}
use borrow.Author.Tests.{eq-eqb, ne_eqb}
use lib.ListN.{length, get_or, take}
use lib.Seq.{length-take-le}
use Rattle.verbs.specs.Verbs.{trimmed_to}

module _ (text : List ℕ) where
  pub trim_stop : (n : ℕ) → 0 < n → (get_or text (n - 1) 0 ≡ 32 → ⊥) → trimmed_to text n ≡ n
  unfolding trimmed_to
  trim_stop zero h ne = absurd (omega arith)
  trim_stop (suc n) h ne =
      let last : suc n - 1 ≡ n = omega arith in
      rw (ne_eqb (get_or text n 0) 32 (rw last at ne))

  pub trim_more : (n : ℕ) → 0 < n → get_or text (n - 1) 0 ≡ 32 → trimmed_to text n ≡ trimmed_to text (n - 1)
  unfolding trimmed_to
  trim_more zero h e = absurd (omega arith)
  trim_more (suc n) h e =
      let last : suc n - 1 ≡ n = omega arith in
      rw (last, eq-eqb (get_or text n 0) 32 (rw last at e))

  pub trim_none : (n : ℕ) → n ≡ 0 → trimmed_to text n ≡ n
  unfolding trimmed_to
  trim_none zero e = refl
  trim_none (suc n) e = absurd (omega arith)

  -- what is known when n bytes are left, of which the last is no space
  pub trimmed : (n : ℕ) → n ≤ length text → trimmed_to text (length text) ≡ trimmed_to text n → trimmed_to text n ≡ n
      → (n ≡ trimmed_to text (length text)) × ((n ≤ length text) × (n ≡ length (take n text)))
  trimmed n h e t = (sym (e ∙ t), (h, sym (length-take-le n text h)))
