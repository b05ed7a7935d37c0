-- What a test of all numbers in a range says: all of them pass, or one of them does not.
use Rattle.std.specs.Prelude.{ℕ, ◌+◌, ◌-◌, ◌≤◌, ◌<◌, Bool, true, false, length, get_or, MatchBool}
use Rattle.std.specs.List.{range_with_len, AllWithin, HoldsAt}
use Rattle.std.proofs.lemmas.List.FromFn.{length-range_with_len, get_or-range_with_len}
use mathlib.Core.Path.{◌≡◌, sym, ◌∙◌}
use native.Mathlib.Omega.{arith}
use Rattle.lists.specs.Tables.{every_below}
use Rattle.lists.proofs.Tables.{every_all, every_miss}

-- of a list of the numbers, and of the numbers themselves
abbrev pub ListAnswer : (a n : ℕ) (Yes No : ℕ → Type 0) → Bool → Type 0
ListAnswer a n Yes No r =
    MatchBool r (AllWithin Yes (range_with_len a n) 0 (length (range_with_len a n))) ((k : ℕ) × (k < length (range_with_len a n)) × HoldsAt No (range_with_len a n) k)

abbrev pub RangeAnswer : (a n : ℕ) (Yes No : ℕ → Type 0) → Bool → Type 0
RangeAnswer a n Yes No r = MatchBool r ((k : ℕ) → a ≤ k → k < a + n → Yes k) ((k : ℕ) × (a ≤ k) × (k < a + n) × No k)

module _ (a n : ℕ) (Yes No : ℕ → Type 0) where
  pub range_answer : (r : Bool) → ListAnswer a n Yes No r → RangeAnswer a n Yes No r
  range_answer true h = λ k l u.
      let there : get_or (range_with_len a n) (k - a) 0 ≡ k = get_or-range_with_len a n (k - a) 0 (omega arith) ∙ omega arith in
      rw there at (h (k - a) 0 (omega arith) (omega (arith, length-range_with_len a n)))
  range_answer false h =
      let below : h.0 < n = omega (arith, h.1, length-range_with_len a n) in
      let there : get_or (range_with_len a n) h.0 0 ≡ a + h.0 = get_or-range_with_len a n h.0 0 below in
      (a + h.0, omega arith, omega arith, rw there at (h.2 0))

-- a test of the numbers below n
pub every_answer : (p : ℕ → Bool) (n : ℕ) (r : Bool) → ListAnswer 0 n (λ k. p k ≡ true) (λ k. p k ≡ false) r → r ≡ every_below p n
every_answer p n true h =
    let all = range_answer 0 n (λ k. p k ≡ true) (λ k. p k ≡ false) true h in
    sym (every_all p n (λ k l. all k (omega arith) (omega arith)))
every_answer p n false h =
    let one = range_answer 0 n (λ k. p k ≡ true) (λ k. p k ≡ false) false h in
    sym (every_miss p n one.0 (omega (arith, one.2)) one.3)
