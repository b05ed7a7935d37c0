-- Laws of the check at a file's end, and of the answer from where its reading stops.
use Prim.Native.Nat.{ℕ, ◌+◌, ◌-◌, ◌≤◌, ◌<◌}
use mathlib.Core.Bool.{Bool, true, false, ◌||◌, or-true, or-false}
use mathlib.Core.List.{List}
use mathlib.Core.Path.{◌≡◌, refl, sym, ◌∙◌}
use native.Mathlib.Decide.{ℕ_discrete}
use native.Mathlib.Numerals.{add-one}
use native.Mathlib.Omega.{arith}
use lib.Dec.{eqb}
use lib.ListN.{length, get_or, set, replicate}
use borrow.Author.Tests.{eq-eqb, ne_eqb}
use Rattle.lists.proofs.Listed.{listed_set}
use Rattle.lists.proofs.Ranges.{RangeAnswer}
use Rattle.lists.proofs.Tables.{every_all, every_miss, get_d_listed}
use Rattle.lists.specs.Tables.{some_below, listed}
use Rattle.order.specs.declared.Pair.{Pair}
use Rattle.policy_file.specs.Whole.{no_pair, stop_of, is_lower_of, is_lower, is_placed, all_placed, refused_policy, at_end, on_stop, policy_of}
use Rattle.policy_file.specs.declared.Policy.{Policy}

-- which numbers are the lower of a pair, as pair after pair is gone through
module _ (over : List Pair) where
  pub no_lowers : replicate 256 false ≡ listed (is_lower over 0) 256
  unfolding listed is_lower some_below
  no_lowers = refl

  pub lowers_more : (k lower : ℕ) → lower ≡ (get_or over k no_pair).lower → lower < 256 → set (listed (is_lower over k) 256) lower true ≡ listed (is_lower over (k + 1)) 256
  unfolding is_lower is_lower_of some_below
  lowers_more k lower e h =
      listed_set (is_lower over k) (is_lower over (k + 1)) 256 lower true h
      (rw (add-one, ← e, eq-eqb lower lower refl, or-true))
      (λ m lt ne. rw (add-one, ← e, ne_eqb lower m (λ same. ne (sym same)), or-false))

-- the check at the end: label 0 needs no pair, any other is placed exactly when it is the lower of one
module _ (over : List Pair) (pairs : ℕ) where
  placed : (m : ℕ) → (1 ≤ m → is_lower over pairs m ≡ true) → is_placed over pairs m ≡ true
  unfolding is_placed
  placed m e = go (ℕ_discrete m 0)
    where
      go : Dec (m ≡ 0) → eqb m 0 || is_lower over pairs m ≡ true
      go (yes z) = rw (eq-eqb m 0 z)
      go (no d) = rw (e (omega arith), or-true)

  unplaced : (m : ℕ) → 1 ≤ m → is_lower over pairs m ≡ false → is_placed over pairs m ≡ false
  unfolding is_placed
  unplaced m h e = rw (ne_eqb m 0 (omega arith), e)

module _ (over : List Pair) (pairs labels : ℕ) (lower : List Bool) (found : lower ≡ listed (is_lower over pairs) 256) (few : labels ≤ 64) where
  lower_at : (i : ℕ) → i < labels → is_lower over pairs i ≡ get_or lower i false
  lower_at i h = rw found (sym (get_d_listed (is_lower over pairs) 256 i false (omega arith)))

  -- the answer of a test of the labels from 1 on
  pub checked : (r : Bool) → RangeAnswer 1 (labels - 1) (λ m. get_or lower m false ≡ true) (λ m. get_or lower m false ≡ false) r → r ≡ all_placed labels pairs over
  checked true all = sym (every_all (is_placed over pairs) labels (λ i l. placed over pairs i (λ one. lower_at i l ∙ all i one (omega arith))))
  checked false one =
      let l : one.0 < labels = omega (arith, one.1, one.2) in
      sym (every_miss (is_placed over pairs) labels one.0 l (unplaced over pairs one.0 one.1 (lower_at one.0 l ∙ one.3)))

-- the answer for the empty file
pub no_bytes : (file : List ℕ) → eqb (length file) 0 ≡ true → policy_of file ≡ refused_policy 1
unfolding policy_of
no_bytes file e = rw e

-- the answer for any other, from where its reading stops: at a refused record, or at the end, where a label is not placed or all are
module _ (file : List ℕ) (some : eqb (length file) 0 ≡ false) (s : Policy) (stop : s ≡ stop_of file) where
  answer : policy_of file ≡ on_stop s
  unfolding policy_of
  answer = rw (some, stop)

  pub refused_answer : (s.refusal ≡ 0 → ⊥) → policy_of file ≡ refused_policy s.refusal
  refused_answer d = answer ∙ rw (ne_eqb s.refusal 0 d)

  module _ (ended : s.refusal ≡ 0) where
    end_answer : policy_of file ≡ at_end s
    end_answer = answer ∙ rw (eq-eqb s.refusal 0 ended)

    pub unplaced_answer : all_placed s.labels s.pairs s.over ≡ false → policy_of file ≡ refused_policy 10
    unfolding at_end
    unplaced_answer e = end_answer ∙ rw e

    pub accepted_answer : all_placed s.labels s.pairs s.over ≡ true → policy_of file ≡ s
    unfolding at_end
    accepted_answer e = end_answer ∙ rw e
