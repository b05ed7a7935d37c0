-- The numbers of refusals in words (01, "Refusals by the place of checking"; 02), for programs and for C.
use Rattle.std.specs.Prelude.{ℕ, ◌-◌, ◌≤◌, ◌<◌, List, [], ◌∷◌, ◌++◌, map, ◌≡◌, length, get_or, take, drop, replicate}
use Prim.Native.String.{String}
use Rattle.decimals.specs.Text.{bytes_of}
use Rattle.decimals.specs.Worded.{newline}
use Rattle.lists.specs.Buffer.{zero_filled}
use Rattle.refusals.specs.Line.{line}

-- what 0 to 26 mean; 0 is not a refusal
unfoldable pub refusal_texts : List String
refusal_texts =
    "accepted"
    ∷ "the file is empty"
    ∷ "fewer than 2 bytes are left, or the mark does not belong in this file"
    ∷ "the record is cut short"
    ∷ "an LB record follows an OV record"
    ∷ "a 65th label, a 513th over-pair or a 65th envelope record"
    ∷ "the name is badly formed (A to Z and digits, at least one, then spaces)"
    ∷ "the name is carried by an earlier record"
    ∷ "a number of the over-pair is not a label's"
    ∷ "the upper number of the over-pair is not less than the lower"
    ∷ "a label other than the first is never the lower of an over-pair"
    ∷ "the length is not 2 plus the number of labels"
    ∷ "a byte is not the number of a strictly higher label, or the top's is not 0"
    ∷ "the policy has no label with this name"
    ∷ "the label has no account with this number"
    ∷ "the root secret does not have 32 bytes"
    ∷ "the buffer is too short for what is to be written"
    ∷ "the header has fewer than 12 bytes, a mark other than EN, or account 0"
    ∷ "the first record is missing, is not a KS, or does not carry the header's name"
    ∷ "the place in the KD record is not less than its own"
    ∷ "the envelope has no label with this name"
    ∷ "a key or message has more than 65,536 bytes"
    ∷ "not a sealed file, a text above 32,768 bytes, or a nonce that is not 12 bytes"
    ∷ "the tag differs: the file was altered, or sealed under another key"
    ∷ "the number is not 1 to 4,096, or an account has or had it"
    ∷ "the account is unknown or withdrawn"
    ∷ "the account is held"
    ∷ []

-- what a number means
unfoldable pub refusal_words : (number : ℕ) → List ℕ
refusal_words number = bytes_of (get_or refusal_texts number "no such refusal")

-- the words and a line feed: "every line ends in one line feed"
unfoldable pub words_line : (number : ℕ) → List ℕ
words_line number = refusal_words number ++ newline

-- the lines of 0 to 26, then that of any other number
unfoldable pub table_lines : List (List ℕ)
table_lines = map line refusal_texts ++ (words_line 27 ∷ [])

-- a text of 80 bytes for callers in C: the words, and zeros after them
unfoldable pub text_of : (number : ℕ) → List ℕ
text_of number = zero_filled 80 (refusal_words number)

-- a text of 80 bytes is null-terminated exactly at the end of s: no byte of s is 0, and nothing but zeros comes after it
pub record Terminated (s text : List ℕ) : Type 0 where
  pub size : length text ≡ 80
  pub short : length s ≤ 79
  pub front : take (length s) text ≡ s
  pub nonzero : (i : ℕ) → i < length s → 0 < get_or s i 0
  pub zeros : drop (length s) text ≡ replicate (80 - length s) 0
