-- The message schedule: the lengths, and one turn of each of the two loops that fill it.
use mathlib.Core.Path.{◌≡◌, refl, sym, ap, ◌∙◌}
use mathlib.Core.List.{List, ◌++◌}
use Prim.Native.Nat.{ℕ, zero, suc, ◌+◌, ◌-◌, ◌≤◌, ◌<◌}
use native.Mathlib.Nat.{add-zero, add-suc}
use native.Mathlib.Numerals.{add-one}
use native.Mathlib.Omega.{arith}
use lib.ListN.{length, get_or, set, take, drop, get_or-append}
use lib.Seq.{length-take-le, take_at}
use Rattle.compression.specs.Compression.{word, words, next, extended, schedule}
use Rattle.compression.proofs.Lists.{filled, length_snoc}

pub words_length : (block : List ℕ) (n : ℕ) → length (words block n) ≡ n
unfolding words
words_length block zero = refl
words_length block (suc t) = length_snoc (words block t) (word block t) ∙ ap suc (words_length block t)

pub extended_length : (w : List ℕ) (n : ℕ) → length (extended w n) ≡ length w + n
unfolding extended
extended_length w zero = rw add-zero
extended_length w (suc n) =
    length_snoc (extended w n) (next (extended w n) (16 + n)) ∙ rw add-suc (ap suc (extended_length w n))

module _ (w₀ : List ℕ) (full : length w₀ ≡ 64) where
  -- a word of the block is stored
  pub load_turn : (block w : List ℕ) (t : ℕ) → t < 16 → w ≡ words block t ++ drop t w₀
      → set w t (word block t) ≡ words block (t + 1) ++ drop (t + 1) w₀
  unfolding words
  load_turn block w t h e =
      rw e (filled (words block t) w₀ t (word block t) (words_length block t) (omega arith)
      ∙ ap (λ (n : ℕ). words block n ++ drop (t + 1) w₀) (sym (add-one t)))

  -- the next word of the schedule reads only what is filled already
  next_filled : (p d : List ℕ) (t : ℕ) → 16 ≤ t → length p ≡ t → next (p ++ d) t ≡ next p t
  next_filled p d t h e =
      let at : (i : ℕ) → i < t → get_or (p ++ d) i 0 ≡ get_or p i 0 = λ i l. get_or-append p d 0 i (omega arith) in
      rw (at (t - 2) (omega arith), at (t - 7) (omega arith), at (t - 15) (omega arith), at (t - 16) (omega arith))

  -- a later word of the schedule is stored
  pub extend_turn : (w : List ℕ) (t : ℕ) → 16 ≤ t → t < 64 → w ≡ extended (take 16 w₀) (t - 16) ++ drop t w₀
      → set w t (next w t) ≡ extended (take 16 w₀) (t + 1 - 16) ++ drop (t + 1) w₀
  unfolding extended
  extend_turn w t low high e =
      let p : List ℕ = extended (take 16 w₀) (t - 16) in
      let l : length p ≡ t = omega (arith, extended_length (take 16 w₀) (t - 16), length-take-le 16 w₀ (omega arith)) in
      let s : t + 1 - 16 ≡ suc (t - 16) = omega arith in
      let u : 16 + (t - 16) ≡ t = omega arith in
      rw (e, s, u, next_filled p (drop t w₀) t low l) (filled p w₀ t (next p t) l (omega arith))

-- what `load` leaves extends to the schedule
pub loaded_schedule : (block w d : List ℕ) → w ≡ words block 16 ++ d → extended (take 16 w) 48 ≡ schedule block
unfolding schedule
loaded_schedule block w d e = rw (e, take_at (words block 16) d 16 (words_length block 16))
