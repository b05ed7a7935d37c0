-- The verbs of a command line: which one a word is, and whether it takes so many arguments.
use Rattle.std.specs.Prelude.{ℕ, zero, suc, Bool, cond, ◌&&◌, List, [], ◌∷◌, eqb, leb, ltb, length, get_or}
use Rattle.format.specs.Bytes.{same_bytes}

-- whether a text is the word; an empty text is no verb
unfoldable pub is_verb : (text word : List ℕ) → Bool
is_verb text word = ltb 0 (length text) && same_bytes text word

-- the place of the first text that is the word; how many texts there are if none is
unfoldable pub place_of : (texts : List (List ℕ)) (word : List ℕ) → ℕ
place_of [] word = 0
place_of (text ∷ texts) word = cond (is_verb text word) 0 (suc (place_of texts word))

-- whether a verb takes so many arguments: of 16 verbs, at least and at most as many as the tables say
unfoldable pub takes_so : (least most : List ℕ) (verb count : ℕ) → Bool
takes_so least most verb count = ltb verb 16 && (leb (get_or least verb 0) count && leb count (get_or most verb 0))

-- how many of the first n bytes there are up to the last one that is no space
unfoldable pub trimmed_to : (text : List ℕ) (n : ℕ) → ℕ
trimmed_to text zero = 0
trimmed_to text (suc n) = cond (eqb (get_or text n 0) 32) (trimmed_to text n) (suc n)
