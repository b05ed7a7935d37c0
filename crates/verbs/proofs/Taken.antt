-- What the tables of some verbs say of a call is what the verbs say of it.
use Prim.Native.Nat.{ℕ, zero, suc, ◌+◌, ◌-◌, ◌≤◌, ◌<◌}
use mathlib.Core.Bool.{Bool, true, false, cond, ◌&&◌}
use mathlib.Core.List.{List, [], ◌∷◌, ◌++◌, map}
use mathlib.Core.Path.{◌≡◌, refl, sym, ap, ◌∙◌}
use native.Mathlib.Decide.{dec_lt}
use native.Mathlib.Omega.{arith}
use borrow.Author.Tests.{lt-ltb, le-ltb}
use lib.Dec.{leb, ltb}
use lib.ListN.{length, get_or, replicate}
use Rattle.decimals.specs.Text.{bytes_of}
use Rattle.format.specs.Names.{unpadded}
use Rattle.verbs.specs.Tables.{Verb, takes_call, rows_of, words_of, least_of, most_of}
use Rattle.verbs.specs.Verbs.{is_verb, place_of, takes_so}

mapped_length : {A B : Type 0} (f : A → B) (l : List A) → length (map f l) ≡ length l
mapped_length f [] = refl
mapped_length f (x ∷ l) = ap suc (mapped_length f l)

-- a place and a number of rows, both one more
ltb_suc : (p n : ℕ) → ltb (suc p) (suc n) ≡ ltb p n
ltb_suc p n = go (dec_lt p n)
  where
    go : Dec (p < n) → ltb (suc p) (suc n) ≡ ltb p n
    go (yes h) = lt-ltb (suc p) (suc n) (omega arith) ∙ sym (lt-ltb p n h)
    go (no h) = le-ltb (suc p) (suc n) (omega arith) ∙ sym (le-ltb p n (omega arith))

module _ (word : List ℕ) (count : ℕ) where
  -- whether the row at place p of n takes so many arguments
  abbrev says : (least most : List ℕ) (p n : ℕ) → Bool
  says least most p n = ltb p n && (leb (get_or least p 0) count && leb count (get_or most p 0))

  none_empty : (k : ℕ) → place_of (replicate k []) word ≡ k
  unfolding place_of is_verb
  none_empty zero = refl
  none_empty (suc k) = ap suc (none_empty k)

  -- with k empty rows
  through : (k : ℕ) (verbs : List Verb) (n : ℕ) → n ≡ length verbs + k
      → says
      (map (λ (v : Verb). v.1) verbs ++ replicate k 0)
      (map (λ (v : Verb). v.2) verbs ++ replicate k 0)
      (place_of (map (λ (v : Verb). bytes_of v.0) verbs ++ replicate k []) word)
      n
      ≡ takes_call verbs word count
  unfolding place_of takes_call
  through k [] n e = rw (none_empty k, le-ltb k n (omega arith))
  through k (v ∷ verbs) zero e = absurd (omega arith)
  through k (v ∷ verbs) (suc n) e = go (place_of words word) (is_verb (bytes_of v.0) word) (through k verbs n (omega arith))
    where
      least : List ℕ
      least = map (λ (v : Verb). v.1) verbs ++ replicate k 0

      most : List ℕ
      most = map (λ (v : Verb). v.2) verbs ++ replicate k 0

      words : List (List ℕ)
      words = map (λ (v : Verb). bytes_of v.0) verbs ++ replicate k []

      go : (p : ℕ) (t : Bool) {rest : Bool} → says least most p n ≡ rest
          → says (v.1 ∷ least) (v.2 ∷ most) (cond t 0 (suc p)) (suc n) ≡ cond t (leb v.1 count && leb count v.2) rest
      go p true same = rw (lt-ltb 0 (suc n) (omega arith))
      go p false same = rw (ltb_suc p n) same

  pub taken : (verbs : List Verb) → length verbs ≤ 16
      → takes_so (least_of verbs) (most_of verbs) (place_of (words_of verbs) word) count ≡ takes_call verbs word count
  unfolding takes_so least_of most_of words_of rows_of
  taken verbs few =
      rw (
        mapped_length (λ (v : Verb). v.1) verbs,
        mapped_length (λ (v : Verb). v.2) verbs,
        mapped_length (λ (v : Verb). bytes_of v.0) verbs,
      )
      (through (16 - length verbs) verbs 16 (omega arith))

  -- what a program answers that has the tables of these verbs
  pub told : (verbs : List Verb) → length verbs ≤ 16 → (words : List (List ℕ)) (least most : List ℕ) (verb : ℕ) {r : Bool}
      → map unpadded words ≡ words_of verbs → verb ≡ place_of (map unpadded words) word → least ≡ least_of verbs → most ≡ most_of verbs
      → r ≡ takes_so least most verb count → r ≡ takes_call verbs word count
  told verbs few words least most verb w v l m t = t ∙ rw (v, w, l, m) (taken verbs few)
