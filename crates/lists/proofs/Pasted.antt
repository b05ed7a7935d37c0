-- What a buffer holds after writes: laws of `pasted` and `zero_filled`.
use mathlib.Core.Path.{◌≡◌, refl, sym, ap, ◌∙◌}
use mathlib.Core.List.{List, [], ◌∷◌, ◌++◌, append_assoc, append-nil}
use Prim.Native.Nat.{ℕ, suc, ◌+◌, ◌-◌, ◌≤◌, ◌<◌}
use native.Mathlib.Nat.{sub-zero}
use native.Mathlib.Numerals.{add-one}
use native.Mathlib.Omega.{arith}
use lib.ListN.{length, set, take, drop, replicate, length-append, length-replicate, replicate-append-replicate}
use lib.Seq.{sets-eq, take_at, drop_at, length-take-le, drop-append-add, drop-drop}
use Rattle.lists.specs.Buffer.{pasted, zero_filled}

-- stores one after the other are a paste
pub pasted_one : (d : List ℕ) (at a : ℕ) → at + 1 ≤ length d → set d at a ≡ pasted d at (a ∷ [])
unfolding pasted
pasted_one d at a h = sets-eq (a ∷ []) d at h

pub pasted_four : (d : List ℕ) (at a b c e : ℕ) → at + 4 ≤ length d
    → set (set (set (set d at a) (at + 1) b) (at + 2) c) (at + 3) e ≡ pasted d at (a ∷ b ∷ c ∷ e ∷ [])
unfolding pasted
pasted_four d at a b c e h =
    let two : at + 2 ≡ suc (suc at) = omega arith in
    let three : at + 3 ≡ suc (suc (suc at)) = omega arith in
    rw (add-one, two, three) (sets-eq (a ∷ b ∷ c ∷ e ∷ []) d at h)

-- a paste over a part of the same length
pasted_middle : (q z t s : List ℕ) → length z ≡ length s → pasted ((q ++ z) ++ t) (length q) s ≡ (q ++ s) ++ t
unfolding pasted
pasted_middle q z t s e =
    let l : length (q ++ z) ≡ length q + length s = length-append q z ∙ ap (λ (k : ℕ). length q + k) e in
    rw (append_assoc q z t, take_at q (z ++ t) (length q) refl, ← append_assoc q z t, drop_at (q ++ z) t (length q + length s) l)

-- two adjacent writes are one
pub pasted_adjacent : (d : List ℕ) (at : ℕ) (s t : List ℕ) → at + length s + length t ≤ length d
    → pasted (pasted d at s) (at + length s) t ≡ pasted d at (s ++ t)
unfolding pasted
pasted_adjacent d at s t h =
    let x : List ℕ = take at d ++ s in
    let y : List ℕ = drop (at + length s) d in
    let lx : length x ≡ at + length s = simp length-append (omega (arith, length-take-le at d (omega arith))) in
    let end : at + length s + length t ≡ at + length (s ++ t) = omega (arith, length-append s t) in
    let back : drop (at + length s + length t) (x ++ y) ≡ drop (at + length (s ++ t)) d =
    ap (λ (k : ℕ). drop (k + length t) (x ++ y)) (sym lx) ∙ drop-append-add x y (length t) ∙ drop-drop (length t) (at + length s) d
    ∙ ap (λ (k : ℕ). drop k d) end
    in
    rw (take_at x y (at + length s) lx, back, append_assoc (take at d) s t)

-- a copy into the part of a buffer from at on is a write
pub part_copied : (d : List ℕ) (at : ℕ) (s copied : List ℕ) → at + length s ≤ length d
    → copied ≡ s
    → take at d ++ (copied ++ drop (at + length s - at) (drop at d)) ≡ pasted d at s
unfolding pasted
part_copied d at s copied h e =
    let k : at + length s - at ≡ length s = omega arith in
    rw (e, k, drop-drop (length s) at d, append_assoc (take at d) s (drop (at + length s) d))

-- k zeros
abbrev zeros : ℕ → List ℕ
zeros k = replicate k 0

length_zeros : (k : ℕ) → length (zeros k) ≡ k
length_zeros k = length-replicate k 0

zeros_add : (j k : ℕ) → zeros (j + k) ≡ zeros j ++ zeros k
zeros_add j k = sym (replicate-append-replicate j k 0)

-- zeros are there before anything is written
pub zero_filled_none : (n : ℕ) → replicate n 0 ≡ zero_filled n []
unfolding zero_filled
zero_filled_none n = rw sub-zero

-- nothing is left of the zeros when the bytes fill the buffer
pub zero_filled_all : (n : ℕ) (s : List ℕ) → length s ≡ n → zero_filled n s ≡ s
unfolding zero_filled
zero_filled_all n s e = let z : n - length s ≡ 0 = omega arith in rw z (append-nil s)

-- the first bytes of a buffer
pub zero_filled_take : (n : ℕ) (s : List ℕ) (k : ℕ) → length s ≡ k → take k (zero_filled n s) ≡ s
unfolding zero_filled
zero_filled_take n s k e = take_at s (replicate (n - length s) 0) k e

pub zero_filled_length : (n : ℕ) (s : List ℕ) → length s ≤ n → length (zero_filled n s) ≡ n
unfolding zero_filled
zero_filled_length n s h = omega (arith, length-append s (zeros (n - length s)), length_zeros (n - length s))

module _ (n : ℕ) where
  -- bytes written j places after the last: j zeros stay between
  pub pasted_behind : (p s : List ℕ) (j at : ℕ) → at ≡ length p + j → at + length s ≤ n
      → pasted (zero_filled n p) at s ≡ zero_filled n ((p ++ replicate j 0) ++ s)
  unfolding zero_filled
  pasted_behind p s j at e h =
      let q : List ℕ = p ++ zeros j in
      let z : List ℕ = zeros (length s) in
      let k : ℕ = n - (at + length s) in
      let lq : length q ≡ at = length-append p (zeros j) ∙ ap (λ (i : ℕ). length p + i) (length_zeros j) ∙ sym e in
      let split : n - length p ≡ j + (length s + k) = omega arith in
      let all : p ++ zeros (n - length p) ≡ (q ++ z) ++ zeros k =
      ap (λ (i : ℕ). p ++ zeros i) split
      ∙ ap (λ (r : List ℕ). p ++ r) (zeros_add j (length s + k) ∙ ap (λ (r : List ℕ). zeros j ++ r) (zeros_add (length s) k))
      ∙ sym (append_assoc p (zeros j) (z ++ zeros k))
      ∙ sym (append_assoc q z (zeros k))
      in
      let back : n - length (q ++ s) ≡ k = ap (λ (l : ℕ). n - l) (length-append q s ∙ ap (λ (l : ℕ). l + length s) lq) in
      ap (λ (d : List ℕ). pasted d at s) all
      ∙ ap (λ (i : ℕ). pasted ((q ++ z) ++ zeros k) i s) (sym lq)
      ∙ pasted_middle q z (zeros k) s (length_zeros (length s))
      ∙ ap (λ (i : ℕ). (q ++ s) ++ zeros i) (sym back)

  -- bytes written straight after the last
  pub pasted_next : (p s : List ℕ) (at : ℕ) → at ≡ length p → at + length s ≤ n → pasted (zero_filled n p) at s ≡ zero_filled n (p ++ s)
  pasted_next p s at e h = pasted_behind p s 0 at (omega arith) h ∙ rw append-nil

  pub stored_next : (p : List ℕ) (x : ℕ) → length p < n → set (zero_filled n p) (length p) x ≡ zero_filled n (p ++ (x ∷ []))
  stored_next p x h =
      pasted_one (zero_filled n p) (length p) x (omega (arith, zero_filled_length n p (omega arith)))
      ∙ pasted_next p (x ∷ []) (length p) refl (omega arith)

  -- a copy to the front
  pub copied : (s : List ℕ) → length s ≤ n → s ++ drop (length s) (replicate n 0) ≡ zero_filled n s
  unfolding zero_filled
  copied s h =
      let split : n ≡ length s + (n - length s) = omega arith in
      let rest : drop (length s) (zeros n) ≡ zeros (n - length s) =
      ap (λ (k : ℕ). drop (length s) (zeros k)) split
      ∙ ap (λ (r : List ℕ). drop (length s) r) (zeros_add (length s) (n - length s))
      ∙ drop_at (zeros (length s)) (zeros (n - length s)) (length s) (length_zeros (length s))
      in
      ap (λ (r : List ℕ). s ++ r) rest
