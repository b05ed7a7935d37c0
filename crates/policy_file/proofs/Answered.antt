-- The whole file: the answer of `policy_of` is what the words of the table say, and only then.
use Prim.Native.Nat.{ℕ, zero, suc, ◌≤◌, ◌<◌}
use mathlib.Core.Bool.{Bool, true, false, ◌||◌, false≢true}
use mathlib.Core.List.{List}
use mathlib.Core.Logic.{◌⊎◌, inl, inr}
use mathlib.Core.Path.{◌≡◌, refl, sym, ap, ◌∙◌}
use native.Mathlib.Decide.{ℕ_discrete}
use native.Mathlib.Omega.{arith}
use borrow.Author.Tests.{eq-eqb, ne_eqb, eqb-true, eqb-false}
use lib.Dec.{eqb}
use lib.ListN.{length, get_or}
use Rattle.lists.proofs.Tables.{some_at, some_below_lem, every_all, every_miss, get_d_filled}
use Rattle.lists.specs.Tables.{filled}
use Rattle.order.specs.declared.Pair.{Pair}
use Rattle.policy_file.proofs.Meaning.{is_end, is_refused, kind_of}
use Rattle.policy_file.proofs.Passing.{place_within}
use Rattle.policy_file.proofs.Stopping.{row_number, stops, stops_only}
use Rattle.policy_file.specs.File.{pair_at}
use Rattle.policy_file.specs.Rows.{bytes_left, RefusedAt, PolicyPasses, stop_at, Stops, refused_there_lem, ended_there, LowerOf, Unplaced, Answered, empty, at_record, at_end_lem, read}
use Rattle.policy_file.specs.Whole.{no_pair, refused_policy, is_lower_of, is_lower, is_placed, at_end, stop_of, on_stop, policy_of}
use Rattle.policy_file.specs.declared.Policy.{Policy}

-- the pairs read, as a table
abbrev pub over_of : List ℕ → ℕ → ℕ → List Pair
over_of file labels pairs = filled 512 no_pair (pair_at file labels) pairs

-- a label is the lower of a pair or not
module _ (file : List ℕ) (labels pairs m : ℕ) where
  read_lower : (k : ℕ) → k < pairs → (get_or (over_of file labels pairs) k no_pair).lower ≡ (pair_at file labels k).lower
  read_lower k l = ap (λ (p : Pair). p.lower) (get_d_filled (pair_at file labels) 512 no_pair pairs k no_pair l)

  pub lower_true : LowerOf file labels pairs m → is_lower (over_of file labels pairs) pairs m ≡ true
  unfolding is_lower is_lower_of
  lower_true l =
      some_at (is_lower_of (over_of file labels pairs) m) pairs l.pair l.below
      (eq-eqb (get_or (over_of file labels pairs) l.pair no_pair).lower m (read_lower l.pair l.below ∙ l.lower))

  pub lower_of : is_lower (over_of file labels pairs) pairs m ≡ true → LowerOf file labels pairs m
  unfolding is_lower is_lower_of
  lower_of e =
      let s = some_below_lem (is_lower_of (over_of file labels pairs) m) pairs e in
      record {
        pair = s.at;
        below = s.below;
        lower = sym (read_lower s.at s.below) ∙ eqb-true (get_or (over_of file labels pairs) s.at no_pair).lower m s.here;
      }

  lower? : Dec (LowerOf file labels pairs m)
  lower? = go (is_lower (over_of file labels pairs) pairs m) refl
    where
      go : (t : Bool) → is_lower (over_of file labels pairs) pairs m ≡ t → Dec (LowerOf file labels pairs m)
      go true e = yes (lower_of e)
      go false e = no (λ l. false≢true (sym e ∙ lower_true l))

  placed_false : 0 < m → (LowerOf file labels pairs m → ⊥) → is_placed (over_of file labels pairs) pairs m ≡ false
  unfolding is_placed
  placed_false h n = rw (ne_eqb m 0 (λ e. omega arith)) (go (is_lower (over_of file labels pairs) pairs m) refl)
    where
      go : (t : Bool) → is_lower (over_of file labels pairs) pairs m ≡ t → t ≡ false
      go true e = absurd (n (lower_of e))
      go false e = refl

  placed_true : (0 < m → LowerOf file labels pairs m) → is_placed (over_of file labels pairs) pairs m ≡ true
  unfolding is_placed
  placed_true l = go (eqb m 0) refl
    where
      go : (t : Bool) → eqb m 0 ≡ t → t || is_lower (over_of file labels pairs) pairs m ≡ true
      go true e = refl
      go false e = let n = eqb-false m 0 e in lower_true (l (omega arith))

-- the check at the end
module _ (file : List ℕ) (labels pairs : ℕ) where
  all_placed_lem : ((m : ℕ) → m < labels → 0 < m → LowerOf file labels pairs m) → at_end (stop_at file 0 labels pairs) ≡ stop_at file 0 labels pairs
  unfolding at_end
  all_placed_lem all = rw (every_all (is_placed (over_of file labels pairs) pairs) labels (λ m l. placed_true file labels pairs m (all m l)))

  one_unplaced : Unplaced file labels pairs → at_end (stop_at file 0 labels pairs) ≡ refused_policy 10
  unfolding at_end
  one_unplaced u =
      rw (every_miss (is_placed (over_of file labels pairs) pairs) labels u.label u.below (placed_false file labels pairs u.label u.other u.never))

  -- the labels below n are placed, or one is not
  placed_below : bytes_left file labels pairs ≡ 0 → (n : ℕ) → n ≤ labels
      → ((m : ℕ) → m < n → 0 < m → LowerOf file labels pairs m) ⊎ Unplaced file labels pairs
  placed_below e zero h = inl (λ m l o. absurd (omega arith))
  placed_below e (suc n) h = go (placed_below e n (omega arith)) (ℕ_discrete n 0) (lower? file labels pairs n)
    where
      go : ((m : ℕ) → m < n → 0 < m → LowerOf file labels pairs m) ⊎ Unplaced file labels pairs → Dec (n ≡ 0) → Dec (LowerOf file labels pairs n)
          → ((m : ℕ) → m < suc n → 0 < m → LowerOf file labels pairs m) ⊎ Unplaced file labels pairs
      go (inr u) z l = inr u
      go (inl all) (yes z) l = inl (λ m k o. absurd (omega arith))
      go (inl all) (no z) (yes l) = inl (λ m k o. more m k o (ℕ_discrete m n))
        where
          more : (m : ℕ) → m < suc n → 0 < m → Dec (m ≡ n) → LowerOf file labels pairs m
          more m k o (yes same) = rw same l
          more m k o (no d) = all m (omega arith) o
      go (inl all) (no z) (no l) = inr record { ends = e; label = n; below = omega arith; other = omega arith; never = l }

  end_answered : 0 < length file → PolicyPasses file labels pairs → bytes_left file labels pairs ≡ 0 → Answered file (at_end (stop_at file 0 labels pairs))
  end_answered h before e = go (placed_below e labels (omega arith))
    where
      go : ((m : ℕ) → m < labels → 0 < m → LowerOf file labels pairs m) ⊎ Unplaced file labels pairs → Answered file (at_end (stop_at file 0 labels pairs))
      go (inl all) = rw (all_placed_lem all) (read record { some = h; passes = before; ends = e; placed = all })
      go (inr u) = rw (one_unplaced u) (at_end_lem before u)

module _ (file : List ℕ) where
  pub started : 0 < length file → policy_of file ≡ on_stop (stop_of file)
  unfolding policy_of
  started h = rw (ne_eqb (length file) 0 (λ e. omega arith))

  -- the answer of a stop, which is that of the file
  refused_answer : {labels pairs n : ℕ} → RefusedAt file labels pairs n → on_stop (stop_at file n labels pairs) ≡ refused_policy n
  refused_answer {n} r = rw (ne_eqb n 0 (λ e. omega (arith, row_number r)))

  stop_answer : 0 < length file → {s : Policy} → Stops file s → policy_of file ≡ on_stop s
  stop_answer h s = started h ∙ ap on_stop (stops_only file s)

  -- From the answer to words.
  stop_answered : 0 < length file → {s : Policy} → Stops file s → Answered file (on_stop s)
  stop_answered h (refused_there_lem before r) = rw (refused_answer r) (at_record before r)
  stop_answered h (ended_there {labels} {pairs} before e) = end_answered file labels pairs h before e

  -- From words to the answer. A record that is refused has bytes.
  refused_left : {labels pairs n : ℕ} → RefusedAt file labels pairs n → 0 < bytes_left file labels pairs
  refused_left {labels} {pairs} {n} r = go (ℕ_discrete (bytes_left file labels pairs) 0)
    where
      go : Dec (bytes_left file labels pairs ≡ 0) → 0 < bytes_left file labels pairs
      go (yes e) =
          let z : ◌≡◌ {A = ℕ} 0 1 = cc (kind_of file labels pairs (is_end e), kind_of file labels pairs (is_refused r)) in
          absurd (omega arith)
      go (no d) = omega arith

  pub answered_only : {p : Policy} → Answered file p → policy_of file ≡ p
  unfolding policy_of
  answered_only (empty e) = rw (eq-eqb (length file) 0 e)
  answered_only (at_record before r) = stop_answer (omega (arith, refused_left r)) (refused_there_lem before r) ∙ refused_answer r
  answered_only (at_end_lem {labels} {pairs} before u) =
      stop_answer (omega (arith, place_within before, u.below)) (ended_there before u.ends) ∙ one_unplaced file labels pairs u
  answered_only (read {labels} {pairs} r) =
      stop_answer r.some (ended_there r.passes r.ends) ∙ all_placed_lem file labels pairs r.placed

  pub answered : Answered file (policy_of file)
  answered = go (ℕ_discrete (length file) 0)
    where
      go : Dec (length file ≡ 0) → Answered file (policy_of file)
      go (yes e) = rw (answered_only (empty e)) (empty e)
      go (no d) = let h : 0 < length file = omega arith in rw (started h) (stop_answered h (stops file))
