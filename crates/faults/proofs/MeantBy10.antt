-- The label that refusal 10 means, in the words of specs/Words.antt: with it `second_top` answers that label's name, without it eight spaces.
use Rattle.std.specs.Prelude.{None, Option, Some}
use Prim.Native.Nat.{ℕ, ◌-◌, ◌≤◌}
use mathlib.Core.Bool.{Bool, true, false, false≢true}
use mathlib.Core.List.{List}
use mathlib.Core.Logic.{◌≢◌, ◌⊎◌, inl, inr, ◌↔◌}
use mathlib.Core.Path.{◌≡◌, refl, sym, ◌∙◌}
use native.Mathlib.Decide.{ℕ_discrete}
use native.Mathlib.Omega.{arith}
use Rattle.faults.proofs.Answers.{second_refused, second_found}
use Rattle.faults.proofs.Searches.{opposite, name_at, name_none, not_spaces}
use Rattle.faults.specs.Faults.{no_name, is_no_lower, second_top}
use Rattle.faults.specs.Words.{SecondTop}
use Rattle.format.proofs.Search.{found_at, not_found}
use Rattle.format.specs.Search.{first_from}
use Rattle.policy_file.proofs.Answered.{over_of, lower_true, lower_of}
use Rattle.policy_file.proofs.Demand1.{refusal_10}
use Rattle.policy_file.proofs.Passing.{label_passed}
use Rattle.policy_file.proofs.Stopping.{row_number, stops, stops_only}
use Rattle.policy_file.specs.Rows.{LowerOf, Stops, refused_there_lem, ended_there}
use Rattle.policy_file.specs.Whole.{is_lower, policy_refusal}
use Rattle.policy_file.specs.declared.Policy.{Policy}

-- a label is asked about by the table of pairs: the test says whether it is the lower of one
module _ (policy : List ℕ) (labels pairs : ℕ) where
  abbrev missing : ℕ → Bool
  missing = is_no_lower (over_of policy labels pairs) pairs

  never_lower : (m : ℕ) → missing m ≡ true → LowerOf policy labels pairs m → ⊥
  unfolding is_no_lower
  never_lower m e low = false≢true (sym (opposite (is_lower (over_of policy labels pairs) pairs m) e) ∙ lower_true policy labels pairs m low)

  some_lower : (m : ℕ) → missing m ≡ false → LowerOf policy labels pairs m
  unfolding is_no_lower
  some_lower m e = lower_of policy labels pairs m (opposite (is_lower (over_of policy labels pairs) pairs m) e)

module _ (policy : List ℕ) where
  pub second_top_meant : policy_refusal policy ≡ 10 → SecondTop policy (second_top policy)
  second_top_meant ten = go (first_from p 1 (labels - 1)) refl
    where
      labels : ℕ
      labels = ((refusal_10 policy).0 ten).labels

      pairs : ℕ
      pairs = ((refusal_10 policy).0 ten).pairs

      p : ℕ → Bool
      p = missing policy labels pairs

      go : (f : Option ℕ) → first_from p 1 (labels - 1) ≡ f → SecondTop policy (second_top policy)
      go (Some m) e =
          let r = (refusal_10 policy).0 ten in
          let f = found_at p (labels - 1) 1 m e in
          let stop = sym (stops_only policy (ended_there r.passes r.row.ends)) in
          record {
            labels = labels;
            pairs = pairs;
            passes = r.passes;
            ends = r.row.ends;
            label = m;
            other = omega (arith, f.from);
            below = omega (arith, f.from, f.below);
            never = never_lower policy labels pairs m f.here;
            before = λ l h. first_or l (ℕ_discrete l 0) (λ one. some_lower policy labels pairs l (f.before l one h));
            named = second_found policy stop refl refl ∙ name_at policy m e;
          }
        where
          first_or : (l : ℕ) → Dec (l ≡ 0) → (1 ≤ l → LowerOf policy labels pairs l) → (l ≡ 0) ⊎ LowerOf policy labels pairs l
          first_or l (yes z) low = inl z
          first_or l (no d) low = inr (low (omega arith))
      go None e =
          let u = ((refusal_10 policy).0 ten).row in
          absurd (u.never (some_lower policy labels pairs u.label (not_found p (labels - 1) 1 e u.label (omega (arith, u.other)) (omega (arith, u.other, u.below)))))

  pub second_top_none : policy_refusal policy ≢ 10 → second_top policy ≡ no_name
  second_top_none other = go (stops policy)
    where
      go : {s : Policy} → Stops policy s → second_top policy ≡ no_name
      go (refused_there_lem before r) = second_refused policy (sym (stops_only policy (refused_there_lem before r))) (λ z. omega (arith, row_number r))
      go (ended_there {labels} {pairs} before ends) = by (first_from (missing policy labels pairs) 1 (labels - 1)) refl
        where
          by : (f : Option ℕ) → first_from (missing policy labels pairs) 1 (labels - 1) ≡ f → second_top policy ≡ no_name
          by (Some m) e =
              let f = found_at (missing policy labels pairs) (labels - 1) 1 m e in
              absurd (other ((refusal_10 policy).1 record {
                labels = labels;
                pairs = pairs;
                passes = before;
                row = record {
                  ends = ends;
                  label = m;
                  below = omega (arith, f.from, f.below);
                  other = omega (arith, f.from);
                  never = never_lower policy labels pairs m f.here;
                };
              }))
          by None e = second_found policy (sym (stops_only policy (ended_there before ends))) refl refl ∙ name_none policy e

  pub second_top_iff : (policy_refusal policy ≡ 10) ↔ (second_top policy ≢ no_name)
  second_top_iff = (there, back)
    where
      there : policy_refusal policy ≡ 10 → second_top policy ≢ no_name
      there ten e = let s = second_top_meant ten in not_spaces (label_passed s.passes s.label s.below).formed (sym s.named ∙ e)

      back : second_top policy ≢ no_name → policy_refusal policy ≡ 10
      back some = go (ℕ_discrete (policy_refusal policy) 10)
        where
          go : Dec (policy_refusal policy ≡ 10) → policy_refusal policy ≡ 10
          go (yes e) = e
          go (no other) = absurd (some (second_top_none other))
