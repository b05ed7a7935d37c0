-- The first line of a text, and the words of a number as the first line of one.
use Prim.Native.Nat.{ℕ, suc, ◌+◌, ◌-◌, ◌≤◌, ◌<◌}
use mathlib.Core.Bool.{Bool, true, false, cond}
use mathlib.Core.List.{List, [], ◌∷◌, ◌++◌, append_assoc}
use mathlib.Core.Path.{◌≡◌, refl, sym, ap, ◌∙◌}
use native.Mathlib.Numerals.{add-one}
use native.Mathlib.Omega.{arith}
use borrow.Author.Tests.{eq-eqb, ne_eqb}
use lib.Dec.{eqb}
use lib.ListN.{length, get_or, take, drop, replicate, length-append, take-append-drop}
use lib.Seq.{drop-cons, drop-length, take_at, length-take-le}
use Rattle.decimals.specs.Worded.{newline}
use Rattle.lists.proofs.Pasted.{copied}
use Rattle.lists.specs.Buffer.{zero_filled}
use Rattle.refusals.specs.Line.{first_line}
use Rattle.refusals.specs.Refusals.{refusal_words, words_line, text_of}
use Rattle.refusals.proofs.Meaning.{text_terminated}

-- it is a front of the text
first_front : (text : List ℕ) → first_line text ≡ take (length (first_line text)) text
unfolding first_line
first_front [] = refl
first_front (b ∷ bs) = go (eqb b 10) (first_front bs)
  where
    go : (t : Bool) → first_line bs ≡ take (length (first_line bs)) bs
        → b ∷ cond t [] (first_line bs) ≡ take (suc (length (cond t [] (first_line bs)))) (b ∷ bs)
    go true e = refl
    go false e = ap (λ (l : List ℕ). b ∷ l) e

pub first_short : (text : List ℕ) → length (first_line text) ≤ length text
unfolding first_line
first_short [] = omega arith
first_short (b ∷ bs) = go (eqb b 10) (first_short bs)
  where
    go : (t : Bool) → length (first_line bs) ≤ length bs → suc (length (cond t [] (first_line bs))) ≤ suc (length bs)
    go true h = omega arith
    go false h = omega arith

-- its bytes one by one: the next is a line feed, is none, or is not there
module _ (text : List ℕ) (i : ℕ) where
  pub first_feed : i < length text → get_or text i 0 ≡ 10 → length (first_line (drop i text)) ≡ 1
  unfolding first_line
  first_feed h e = rw (drop-cons text i 0 h, eq-eqb (get_or text i 0) 10 e)

  pub first_more : i < length text → (get_or text i 0 ≡ 10 → ⊥) → length (first_line (drop i text)) ≡ suc (length (first_line (drop (i + 1) text)))
  unfolding first_line
  first_more h e = rw (drop-cons text i 0 h, ne_eqb (get_or text i 0) 10 e, add-one)

  pub first_end : i ≡ length text → length (first_line (drop i text)) ≡ 0
  unfolding first_line
  first_end e = rw (e, drop-length)

-- the text's front of that length
pub first_taken : (text : List ℕ) (n : ℕ) → n ≡ length (first_line text) → take n text ≡ first_line text
first_taken text n e = rw e (sym (first_front text))

-- the words are the line of a number without its line feed
module _ (number : ℕ) (text : List ℕ) (n : ℕ) (e : first_line text ≡ words_line number) (size : n ≡ length (first_line text)) where
  pub words_length : n ≡ length (refusal_words number) + 1
  unfolding words_line
  words_length = size ∙ ap length e ∙ length-append (refusal_words number) newline

  pub words_within : n ≤ length text
  words_within = omega (arith, first_short text)

  pub words_taken : take (n - 1) text ≡ refusal_words number
  unfolding words_line
  words_taken =
      let words = refusal_words number in
      let parts : text ≡ words ++ (newline ++ drop n text) =
      sym (take-append-drop n text)
      ∙ ap (λ (l : List ℕ). l ++ drop n text) (first_taken text n size ∙ e)
      ∙ append_assoc words newline (drop n text)
      in
      ap (λ (l : List ℕ). take (n - 1) l) parts ∙ take_at words (newline ++ drop n text) (n - 1) (omega (arith, words_length))

  pub words_short : length (take (n - 1) text) ≤ 80
  words_short = rw words_taken (omega (arith, (text_terminated number).short))

  pub words_room : n - 1 ≤ 80
  words_room = rw (length-take-le (n - 1) text (omega (arith, words_within))) at words_short

  -- copied over 80 zeros
  pub words_copied : {copy : List ℕ} → copy ≡ take (n - 1) text → copy ++ drop (n - 1) (replicate 80 0) ≡ text_of number
  unfolding text_of zero_filled
  words_copied h =
      let size : n - 1 ≡ length (refusal_words number) = omega (arith, words_length) in
      rw (h, words_taken, size) (copied 80 (refusal_words number) (rw words_taken at words_short))
