-- The compression function of SHA-256: one turn of FIPS 180-4, section 6.2.2.
use Rattle.std.specs.Prelude.{List, [], ◌∷◌, ◌++◌, ℕ, zero, suc, ◌+◌, ◌-◌, ◌*◌, ◌^◌, get_or}
use Rattle.sha256_constants.specs.Constants.{round_words}
use Rattle.words.specs.Words.{add, ch, maj, big_sigma0, big_sigma1, small_sigma0, small_sigma1}
use Rattle.compression.specs.declared.Working.{Working}

-- M_t: the word number t of a block, most significant byte first (sections 3.1 and 5.2.1)
abbrev pub word : List ℕ → ℕ → ℕ
word block t =
    get_or block (4 * t) 0 * 2 ^ 24 + get_or block (4 * t + 1) 0 * 2 ^ 16 + get_or block (4 * t + 2) 0 * 2 ^ 8 + get_or block (4 * t + 3) 0

-- M_0 to M_(n-1)
unfoldable pub words : List ℕ → ℕ → List ℕ
words block zero = []
words block (suc t) = words block t ++ (word block t ∷ [])

-- W_t for t from 16 on, of the words before it (section 6.2.2, step 1)
abbrev pub next : List ℕ → ℕ → ℕ
next w t =
    add (add (add (small_sigma1 (get_or w (t - 2) 0)) (get_or w (t - 7) 0)) (small_sigma0 (get_or w (t - 15) 0))) (get_or w (t - 16) 0)

-- the 16 words w and the n words after them
unfoldable pub extended : List ℕ → ℕ → List ℕ
extended w zero = w
extended w (suc n) = let v = extended w n in v ++ (next v (16 + n) ∷ [])

-- W_0 to W_63: the message schedule of a block (section 6.2.2, step 1)
unfoldable pub schedule : List ℕ → List ℕ
schedule block = extended (words block 16) 48

-- the working variables a to h at the start: the words of the hash value (section 6.2.2, step 2)
abbrev pub start : List ℕ → Working
start h =
    record {
      a = get_or h 0 0;
      b = get_or h 1 0;
      c = get_or h 2 0;
      d = get_or h 3 0;
      e = get_or h 4 0;
      f = get_or h 5 0;
      g = get_or h 6 0;
      h = get_or h 7 0;
    }

-- T_1 and T_2 (section 6.2.2, step 3)
abbrev pub temporary1 : ℕ → ℕ → ℕ → ℕ → ℕ → ℕ → ℕ
temporary1 e f g h k w = add (add (add (add h (big_sigma1 e)) (ch e f g)) k) w

abbrev pub temporary2 : ℕ → ℕ → ℕ → ℕ
temporary2 a b c = add (big_sigma0 a) (maj a b c)

-- one round, with its round word k and its word w of the schedule (section 6.2.2, step 3)
unfoldable pub round_of : Working → ℕ → ℕ → Working
round_of v k w =
    let t1 = temporary1 v.e v.f v.g v.h k w in
    let t2 = temporary2 v.a v.b v.c in
    record { a = add t1 t2; b = v.a; c = v.b; d = v.c; e = add v.d t1; f = v.e; g = v.f; h = v.g }

-- the first n rounds, over the schedule w
unfoldable pub rounds : List ℕ → Working → ℕ → Working
rounds w v zero = v
rounds w v (suc t) = round_of (rounds w v t) (get_or round_words t 0) (get_or w t 0)

-- the next hash value: the words of the last one, each with its working variable added (section 6.2.2, step 4)
abbrev pub added : List ℕ → Working → List ℕ
added h v =
    add (get_or h 0 0) v.a
    ∷ add (get_or h 1 0) v.b
    ∷ add (get_or h 2 0) v.c
    ∷ add (get_or h 3 0) v.d
    ∷ add (get_or h 4 0) v.e
    ∷ add (get_or h 5 0) v.f
    ∷ add (get_or h 6 0) v.g
    ∷ add (get_or h 7 0) v.h
    ∷ []

-- the hash value after one block (section 6.2.2)
unfoldable pub compressed : List ℕ → List ℕ → List ℕ
compressed h block = added h (rounds (schedule block) (start h) 64)
