-- Names padded with spaces, and names that are long as they stand.
use Prim.Native.Nat.{ℕ, zero, suc, ◌+◌, ◌-◌, ◌≤◌, ◌<◌}
use mathlib.Core.List.{List, [], ◌∷◌, ◌++◌}
use mathlib.Core.Path.{◌≡◌, refl, ap, ap₂, sym, ◌∙◌}
use native.Mathlib.Numerals.{unary_clauses}
use native.Mathlib.Omega.{arith}
use borrow.Author.Tests.{lt-ltb, le-ltb}
use lib.ListN.{length, take, drop, get_or, replicate, take-append-drop, length-append, length-drop, length-replicate}
use lib.Seq.{take-length, length-take-le, get_or-drop}
use Rattle.format.proofs.Padding.{unpadded_signs}
use Rattle.format.specs.Form.{NameForm}
use Rattle.format.specs.Names.{unpadded}
use Rattle.command.specs.Typed.{padded_name}

-- `SUITE` is given to the operations as `SUITE   `
pub padded_suite : padded_name (83 ∷ 85 ∷ 73 ∷ 84 ∷ 69 ∷ []) ≡ 83 ∷ 85 ∷ 73 ∷ 84 ∷ 69 ∷ 32 ∷ 32 ∷ 32 ∷ []
unfolding padded_name
padded_suite = refl

drop_replicate : (k n a : ℕ) → drop k (replicate n a) ≡ replicate (n - k) a
drop_replicate zero n a = simp unary_clauses
drop_replicate (suc k) zero a = let e : 0 - suc k ≡ 0 = omega arith in rw e
drop_replicate (suc k) (suc n) a = simp unary_clauses (drop_replicate k n a)

module _ (s : List ℕ) where
  pub long_stays : 8 < length s → padded_name s ≡ s
  unfolding padded_name
  long_stays h = rw (lt-ltb 8 (length s) h)

  spaces_after : length s ≤ 8 → padded_name s ≡ s ++ replicate (8 - length s) 32
  unfolding padded_name
  spaces_after h = rw (le-ltb 8 (length s) h)

  -- the name copied over 8 spaces
  pub short_padded : length s ≤ 8 → take (length s) s ++ drop (length s) (replicate 8 32) ≡ padded_name s
  short_padded h = rw (spaces_after h, take-length s, drop_replicate (length s) 8 32)

  -- what is typed with up to 8 bytes becomes a name of 8
  pub short_length : length s ≤ 8 → length (padded_name s) ≡ 8
  short_length h = rw (spaces_after h) (simp (length-append, length-replicate) (omega arith))

-- spaces only
spaces : (s : List ℕ) → ((i : ℕ) → i < length s → get_or s i 0 ≡ 32) → s ≡ replicate (length s) 32
spaces [] all = refl
spaces (b ∷ s) all =
    ap₂ (λ (a : ℕ) (l : List ℕ). a ∷ l) (all 0 (omega arith)) (spaces s (λ i h. all (suc i) (omega arith)))

-- a label's name, typed as the plan prints it, is that name again
module _ (name : List ℕ) (form : NameForm name) (eight : length name ≡ 8) where
  abbrev n : ℕ
  n = form.signs

  front : length (take n name) ≡ n
  front = length-take-le n name form.within

  after : drop n name ≡ replicate (8 - n) 32
  after =
      let size : length (drop n name) ≡ 8 - n = length-drop n name ∙ ap (λ (k : ℕ). k - n) eight in
      spaces (drop n name) (λ i h. get_or-drop n name i 0 ∙ form.space (n + i) (omega arith) (omega (arith, length-drop n name)))
      ∙ ap (λ (k : ℕ). replicate k 32) size

  pub padded_back : padded_name (unpadded name) ≡ name
  padded_back =
      ap padded_name (unpadded_signs name form)
      ∙ spaces_after (take n name) (omega (arith, front, form.within))
      ∙ ap (λ (k : ℕ). take n name ++ replicate (8 - k) 32) front
      ∙ ap (λ (l : List ℕ). take n name ++ l) (sym after)
      ∙ take-append-drop n name
