-- Exclusive or of bytes: its length, one byte more, and that twice is none.
use mathlib.Core.Path.{◌≡◌, refl, sym, ap, ◌∙◌}
use mathlib.Core.List.{List, [], ◌∷◌, ◌++◌, append_assoc}
use Prim.Native.Nat.{ℕ, zero, suc, ◌+◌, ◌/◌, ◌%◌, ◌≤◌, ◌<◌}
use native.Mathlib.Numerals.{add-one}
use native.Mathlib.Omega.{arith}
use lib.Bits.{bit_xor, differ, xor_step, xor_zero_l, xor_self}
use lib.ListN.{length, get_or, set, take, drop, length-take}
use lib.Seq.{drop-cons, set_at, get_or_at}
use Rattle.chacha20.specs.Encryption.{xored}

-- exclusive or of digits, twice
digit_twice : (x y : ℕ) → x < 2 → y < 2 → (differ (differ x y) y ≡ x) × (differ x y < 2)
digit_twice zero zero l m = (refl, omega arith)
digit_twice zero (suc zero) l m = (refl, omega arith)
digit_twice (suc zero) zero l m = (refl, omega arith)
digit_twice (suc zero) (suc zero) l m = (refl, omega arith)
digit_twice (suc (suc x)) y l m = absurd (omega arith)
digit_twice zero (suc (suc y)) l m = absurd (omega arith)
digit_twice (suc zero) (suc (suc y)) l m = absurd (omega arith)

-- exclusive or of numbers, twice
module _ (a b : ℕ) where
  xor_half : bit_xor a b / 2 ≡ bit_xor (a / 2) (b / 2)
  xor_half = let d = digit_twice (a % 2) (b % 2) (omega arith) (omega arith) in omega (arith, xor_step a b, d.1)

  xor_digit : bit_xor a b % 2 ≡ differ (a % 2) (b % 2)
  xor_digit = let d = digit_twice (a % 2) (b % 2) (omega arith) (omega arith) in omega (arith, xor_step a b, d.1)

twice_below : (n a b : ℕ) → a ≤ n → bit_xor (bit_xor a b) b ≡ a
twice_below zero a b h = let z : a ≡ 0 = omega arith in rw (z, xor_zero_l b) (xor_self b)
twice_below (suc n) a b h =
    xor_step (bit_xor a b) b
    ∙ rw (xor_half a b, xor_digit a b, twice_below n (a / 2) (b / 2) (omega arith), (digit_twice (a % 2) (b % 2) (omega arith) (omega arith)).0)
    (omega arith)

pub xor_twice : (a b : ℕ) → bit_xor (bit_xor a b) b ≡ a
xor_twice a b = twice_below a a b (omega arith)

pub xored_length : (s k : List ℕ) → length s ≤ length k → length (xored s k) ≡ length s
unfolding xored
xored_length [] k h = refl
xored_length (a ∷ s) [] h = absurd (omega arith)
xored_length (a ∷ s) (b ∷ k) h = ap suc (xored_length s k (omega arith))

pub xored_at : (s k : List ℕ) (i : ℕ) → i < length s → i < length k → get_or (xored s k) i 0 ≡ bit_xor (get_or s i 0) (get_or k i 0)
unfolding xored
xored_at [] k i h l = absurd (omega arith)
xored_at (a ∷ s) [] i h l = absurd (omega arith)
xored_at (a ∷ s) (b ∷ k) zero h l = refl
xored_at (a ∷ s) (b ∷ k) (suc i) h l = xored_at s k i (omega arith) (omega arith)

-- one byte more
xored_more : (s k : List ℕ) (i : ℕ) → i < length s → i < length k
    → xored (take (suc i) s) k ≡ xored (take i s) k ++ (bit_xor (get_or s i 0) (get_or k i 0) ∷ [])
unfolding xored
xored_more [] k i h l = absurd (omega arith)
xored_more (a ∷ s) [] i h l = absurd (omega arith)
xored_more (a ∷ s) (b ∷ k) zero h l = refl
xored_more (a ∷ s) (b ∷ k) (suc i) h l = ap (λ (t : List ℕ). bit_xor a b ∷ t) (xored_more s k i (omega arith) (omega arith))

-- the first i bytes of a part are done
abbrev pub xored_to : List ℕ → List ℕ → ℕ → List ℕ
xored_to part k i = xored (take i part) k ++ drop i part

module _ (part k : List ℕ) (enough : length part ≤ length k) (now : List ℕ) (i : ℕ) where
  front : i < length part → length (xored (take i part) k) ≡ i
  front h = let l : length (take i part) ≡ i = length-take i part ∙ (omega arith) in xored_length (take i part) k (omega arith) ∙ l

  pub xored_turn : i < length part → now ≡ xored_to part k i → set now i (bit_xor (get_or now i 0) (get_or k i 0)) ≡ xored_to part k (i + 1)
  xored_turn h e =
      let p = xored (take i part) k in
      let d = drop-cons part i 0 h in
      let x : get_or now i 0 ≡ get_or part i 0 = rw (e, d) (get_or_at p (get_or part i 0) (drop (suc i) part) 0 i (front h)) in
      rw x (rw (e, add-one, xored_more part k i h (omega arith), d)
      (set_at p (get_or part i 0) (drop (suc i) part) _ i (front h) ∙ sym (append_assoc p _ (drop (suc i) part))))
