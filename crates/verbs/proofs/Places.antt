-- Laws of the search for a verb: one row, and row by row.
use Prim.Native.Nat.{ℕ, suc, ◌+◌, ◌<◌}
use mathlib.Core.Bool.{Bool, true, false, false≢true}
use mathlib.Core.List.{List, [], map}
use mathlib.Core.Path.{◌≡◌, refl, sym, ◌∙◌}
use native.Mathlib.Numerals.{add-one}
use native.Mathlib.Omega.{arith}
use borrow.Author.Tests.{lt-ltb, le-ltb}
use lib.ListN.{length, get_or, take, drop}
use lib.Seq.{drop-cons, drop-length}
use Rattle.format.proofs.Bytes.{same_true, differ}
use Rattle.format.proofs.Padding.{unpadded_taken}
use Rattle.format.specs.Bytes.{same_bytes}
use Rattle.format.specs.Names.{unpadded}
use Rattle.verbs.specs.Verbs.{is_verb, place_of}

-- a row whose text has n bytes
module _ (row word : List ℕ) (n : ℕ) (size : n ≡ length (unpadded row)) where
  pub empty_none : n ≡ 0 → is_verb (unpadded row) word ≡ false
  unfolding is_verb
  empty_none e = rw (le-ltb 0 (length (unpadded row)) (omega arith))

  pub same_verb : (n ≡ 0 → ⊥) → (r : Bool) → (r ≡ true → take n row ≡ word) → (take n row ≡ word → r ≡ true)
      → r ≡ is_verb (unpadded row) word
  unfolding is_verb
  same_verb some r there back = go r refl ∙ rw (lt-ltb 0 (length (unpadded row)) (omega arith))
    where
      text : take n row ≡ unpadded row
      text = unpadded_taken row row n refl size

      go : (t : Bool) → r ≡ t → r ≡ same_bytes (unpadded row) word
      go true e = e ∙ sym (same_true (unpadded row) word (sym text ∙ there e))
      go false e = e ∙ sym (differ (unpadded row) word (λ same. false≢true (sym e ∙ back (text ∙ same))))

-- the rows from place i on: the next is the verb, is not, or is not there
module _ (rows : List (List ℕ)) (word : List ℕ) (i : ℕ) where
  pub place_here : i < length rows → is_verb (unpadded (get_or rows i [])) word ≡ true → place_of (map unpadded (drop i rows)) word ≡ 0
  unfolding place_of
  place_here h e = rw (drop-cons rows i [] h, e)

  pub place_more : i < length rows → is_verb (unpadded (get_or rows i [])) word ≡ false
      → place_of (map unpadded (drop i rows)) word ≡ suc (place_of (map unpadded (drop (i + 1) rows)) word)
  unfolding place_of
  place_more h e = rw (drop-cons rows i [] h, e, add-one)

  pub place_end : i ≡ length rows → place_of (map unpadded (drop i rows)) word ≡ 0
  unfolding place_of
  place_end e = rw (e, drop-length)
