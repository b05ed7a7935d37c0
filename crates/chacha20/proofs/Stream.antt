-- Laws of a text with any key stream whose blocks have 64 bytes: its length, its bytes, twice, and one turn of the loop over the blocks.
use mathlib.Core.Path.{◌≡◌, refl, sym, ap, ◌∙◌}
use mathlib.Core.List.{List, ◌++◌, append_assoc, append-nil}
use Prim.Native.Nat.{ℕ, zero, suc, ◌+◌, ◌-◌, ◌*◌, ◌/◌, ◌%◌, ◌<◌, min}
use native.Mathlib.Decide.{dec_lt}
use native.Mathlib.Numerals.{add-one}
use native.Mathlib.Omega.{arith}
use lib.Bits.{bit_xor}
use lib.ListN.{length, get_or, take, drop, length-append, length-take, length-drop, get_or-append, drop_of_length-le}
use lib.Seq.{take_at, drop_at, take_all, drop-drop, get_or-take, get_or-drop, get_or-append-add, ext_get_or}
use Rattle.lists.specs.Tables.{concat_below}
use Rattle.chacha20.specs.Encryption.{xored, text_block, block_count, streamed}
use Rattle.chacha20.proofs.Xored.{xor_twice, xored_length, xored_at}

-- block number j of a text with its block of the key stream
abbrev pub xored_block : (ℕ → List ℕ) → List ℕ → ℕ → List ℕ
xored_block k text j = xored (text_block text j) (k j)

text_block_length : (text : List ℕ) (j : ℕ) → length (text_block text j) ≡ min 64 (length text - 64 * j)
unfolding text_block
text_block_length text j = rw (length-take, length-drop)

module _ (k : ℕ → List ℕ) (wide : (j : ℕ) → length (k j) ≡ 64) (text : List ℕ) where
  block_length : (j : ℕ) → length (xored_block k text j) ≡ min 64 (length text - 64 * j)
  block_length j =
      let l = text_block_length text j in xored_length (text_block text j) (k j) (omega (arith, wide j)) ∙ l

  -- the first n blocks have 64 bytes each, as far as the text goes
  pub blocks_length : (n : ℕ) → length (concat_below (xored_block k text) n) ≡ min (64 * n) (length text)
  unfolding concat_below
  blocks_length zero = omega arith
  blocks_length (suc n) =
      let f = xored_block k text in omega (arith, length-append (concat_below f n) (f n), blocks_length n, block_length n)

  pub streamed_length : length (streamed k text) ≡ length text
  unfolding streamed
  streamed_length = omega (arith, blocks_length (block_count (length text)))

  -- byte number i of the first n blocks
  blocks_at : (n i : ℕ) → i < 64 * n → i < length text
      → get_or (concat_below (xored_block k text) n) i 0 ≡ bit_xor (get_or text i 0) (get_or (k (i / 64)) (i % 64) 0)
  unfolding concat_below text_block
  blocks_at zero i h l = absurd (omega arith)
  blocks_at (suc n) i h l = go (dec_lt i (64 * n)) (λ m. blocks_at n i m l)
    where
      front : List ℕ
      front = concat_below (xored_block k text) n

      last : List ℕ
      last = xored_block k text n

      go : Dec (i < 64 * n) → (i < 64 * n → get_or front i 0 ≡ bit_xor (get_or text i 0) (get_or (k (i / 64)) (i % 64) 0))
          → get_or (front ++ last) i 0 ≡ bit_xor (get_or text i 0) (get_or (k (i / 64)) (i % 64) 0)
      go (yes m) rest = get_or-append front last 0 i (omega (arith, blocks_length n)) ∙ rest m
      go (no m) rest =
          let r = i - 64 * n in
          let e : i ≡ length front + r = omega (arith, blocks_length n) in
          let q : i / 64 ≡ n = omega arith in
          let s : i % 64 ≡ r = omega arith in
          let here : 64 * n + r ≡ i = omega arith in
          let t = text_block text n in
          let byte : get_or t r 0 ≡ get_or text i 0 =
          get_or-take 64 (drop (64 * n) text) r 0 (omega arith) ∙ get_or-drop (64 * n) text r 0 ∙ ap (λ (j : ℕ). get_or text j 0) here
          in
          ap (λ (j : ℕ). get_or (front ++ last) j 0) e
          ∙ get_or-append-add front last r 0
          ∙ xored_at t (k n) r (omega (arith, text_block_length text n)) (omega (arith, wide n))
          ∙ rw (q, s, byte)

  -- byte number i: exclusive or with byte i of the key stream
  pub streamed_at : (i : ℕ) → i < length text → get_or (streamed k text) i 0 ≡ bit_xor (get_or text i 0) (get_or (k (i / 64)) (i % 64) 0)
  unfolding streamed
  streamed_at i h = blocks_at (block_count (length text)) i (omega arith) h

-- with the same key stream twice, the text is there again
pub streamed_twice : (k : ℕ → List ℕ) → ((j : ℕ) → length (k j) ≡ 64) → (text : List ℕ) → streamed k (streamed k text) ≡ text
streamed_twice k wide text =
    let once = streamed k text in
    let l = streamed_length k wide text in
    ext_get_or 0 (streamed k once) text (streamed_length k wide once ∙ l)
    (λ i h.
    let m : i < length once = omega (arith, streamed_length k wide once) in
    streamed_at k wide once i m
    ∙ rw (streamed_at k wide text i (omega arith)) (xor_twice (get_or text i 0) (get_or (k (i / 64)) (i % 64) 0)))

-- a list that is cut off where it ends
short : (l : List ℕ) (n m : ℕ) → m ≡ min n (length l) → (take m l ≡ take n l) × (drop m l ≡ drop n l)
short l n m e = go (dec_lt n (length l))
  where
    go : Dec (n < length l) → (take m l ≡ take n l) × (drop m l ≡ drop n l)
    go (yes h) = let d : m ≡ n = omega arith in rw d (refl, refl)
    go (no h) = (
      take_all m l (omega arith) ∙ sym (take_all n l (omega arith)),
      drop_of_length-le l {i = m} (omega arith) ∙ sym (drop_of_length-le l {i = n} (omega arith)),
    )

-- the text after n turns of the loop: the first n blocks are done, the rest is as it was
abbrev pub done : (ℕ → List ℕ) → List ℕ → ℕ → List ℕ
done k text n = concat_below (xored_block k text) n ++ drop (64 * n) text

module _ (k : ℕ → List ℕ) (wide : (j : ℕ) → length (k j) ≡ 64) (text : List ℕ) where
  pub done_none : text ≡ done k text 0
  unfolding concat_below
  done_none = refl

  -- block number j, from `at` to `end`, is done too
  pub done_turn : (now stream part : List ℕ) (j at end : ℕ) → at ≡ 64 * j → at < length text → end ≡ min (at + 64) (length text)
      → now ≡ done k text j → stream ≡ k j → part ≡ xored (take (end - at) (drop at now)) stream
      → take at now ++ (part ++ drop (end - at) (drop at now)) ≡ done k text (j + 1)
  unfolding concat_below text_block
  done_turn now stream part j at end a h e m s f =
      let p : List ℕ = concat_below (xored_block k text) j in
      let l : length p ≡ at = omega (arith, blocks_length k wide text j) in
      let whole : now ≡ p ++ drop at text = rw a m in
      let front : take at now ≡ p = rw whole (take_at p (drop at text) at l) in
      let back : drop at now ≡ drop at text = rw whole (drop_at p (drop at text) at l) in
      let block : take (end - at) (drop at text) ≡ take 64 (drop (64 * j) text) =
      (short (drop at text) 64 (end - at) (omega (arith, length-drop at text))).0 ∙ ap (λ (i : ℕ). take 64 (drop i text)) a in
      let stop : at + (end - at) ≡ end = omega arith in
      let next : drop end text ≡ drop (64 * suc j) text = (short text (64 * suc j) end (omega arith)).1 in
      rw (f, s, front, back, block, drop-drop (end - at) at text, stop, next, add-one)
      (sym (append_assoc p (xored_block k text j) (drop (64 * suc j) text)))

  pub done_all : (now : List ℕ) (n : ℕ) → n ≡ block_count (length text) → now ≡ done k text n → now ≡ streamed k text
  unfolding streamed
  done_all now n e m =
      m ∙ rw (e, drop_of_length-le text {i = 64 * block_count (length text)} (omega arith))
      (append-nil (concat_below (xored_block k text) (block_count (length text))))
