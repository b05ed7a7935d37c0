-- What a number means: as a line, and as a null-terminated text.
use Prim.Native.Nat.{ℕ, zero, suc, ◌-◌, ◌≤◌, ◌<◌}
use Prim.Native.String.{String}
use mathlib.Core.Bool.{Bool, true, ◌&&◌}
use mathlib.Core.List.{List, [], ◌∷◌, ◌++◌}
use mathlib.Core.Path.{◌≡◌, refl, ap}
use native.Mathlib.Omega.{arith}
use borrow.Author.Tests.{ltb-true, leb-true}
use lib.Dec.{ltb, leb}
use lib.ListN.{length, get_or, drop, replicate, get_or-eq_default}
use lib.Seq.{drop_at}
use Rattle.decimals.specs.Text.{bytes_of}
use Rattle.format.proofs.Bytes.{and_true}
use Rattle.lists.proofs.Pasted.{copied, zero_filled_length, zero_filled_take}
use Rattle.lists.specs.Buffer.{zero_filled}
use Rattle.refusals.specs.Refusals.{refusal_texts, refusal_words, text_of, Terminated}

-- what numbers from 27 on mean
abbrev other : String
other = "no such refusal"

pub words_other : (number : ℕ) → 27 ≤ number → refusal_words number ≡ bytes_of other
unfolding refusal_words refusal_texts
words_other number h = ap bytes_of (get_or-eq_default refusal_texts other h)

-- up to 79 bytes, and no byte is 0
unfoldable no_zero : List ℕ → Bool
no_zero [] = true
no_zero (b ∷ bs) = ltb 0 b && no_zero bs

unfoldable fits : List ℕ → Bool
fits s = leb (length s) 79 && no_zero s

unfoldable all_fit : List String → Bool
all_fit [] = true
all_fit (text ∷ texts) = fits (bytes_of text) && all_fit texts

fit_at : (texts : List String) → all_fit texts ≡ true → (n : ℕ) → fits (bytes_of (get_or texts n other)) ≡ true
unfolding all_fit fits no_zero bytes_of
fit_at [] e n = refl
fit_at (text ∷ texts) e zero = (and_true (fits (bytes_of text)) (all_fit texts) e).0
fit_at (text ∷ texts) e (suc n) = fit_at texts (and_true (fits (bytes_of text)) (all_fit texts) e).1 n

words_fit : (number : ℕ) → fits (refusal_words number) ≡ true
unfolding refusal_texts refusal_words all_fit fits no_zero bytes_of
words_fit number = fit_at refusal_texts refl number

no_zero_lem : (s : List ℕ) → no_zero s ≡ true → (i : ℕ) → i < length s → 0 < get_or s i 0
unfolding no_zero
no_zero_lem [] e i h = absurd (omega arith)
no_zero_lem (b ∷ bs) e zero h = ltb-true 0 b (and_true (ltb 0 b) (no_zero bs) e).0
no_zero_lem (b ∷ bs) e (suc i) h = no_zero_lem bs (and_true (ltb 0 b) (no_zero bs) e).1 i (omega arith)

-- every text for callers in C is null-terminated exactly at the end of its words
pub text_terminated : (number : ℕ) → Terminated (refusal_words number) (text_of number)
unfolding text_of zero_filled fits
text_terminated number =
    let s = refusal_words number in
    let both = and_true (leb (length s) 79) (no_zero s) (words_fit number) in
    let short : length s ≤ 79 = leb-true (length s) 79 both.0 in record {
      size = zero_filled_length 80 s (omega arith);
      short = short;
      front = zero_filled_take 80 s (length s) refl;
      nonzero = no_zero_lem s both.1;
      zeros = drop_at s (replicate (80 - length s) 0) (length s) refl;
    }

-- the words copied over 80 zeros
pub words_short : (number : ℕ) → length (refusal_words number) ≤ 79
words_short number = (text_terminated number).short

pub words_copied : (number : ℕ) {words copy : List ℕ} → words ≡ refusal_words number → copy ≡ words
    → copy ++ drop (length words) (replicate 80 0) ≡ text_of number
unfolding text_of zero_filled
words_copied number e f = rw (f, e) (copied 80 (refusal_words number) (omega (arith, words_short number)))

pub words_room : (number : ℕ) {words : List ℕ} → words ≡ refusal_words number → length words ≤ 80
words_room number e = rw e (omega (arith, words_short number))
