-- The label that refusal 12 means, in the words of specs/Words.antt: with it `ill_hung` answers that label's name, without it eight spaces.
use Rattle.std.specs.Prelude.{None, Option, Some}
use Prim.Native.Nat.{ℕ, ◌<◌}
use mathlib.Core.Bool.{Bool, true, false≢true}
use mathlib.Core.List.{List}
use mathlib.Core.Logic.{◌≢◌, ◌⊎◌, inl, inr, ◌↔◌}
use mathlib.Core.Path.{◌≡◌, refl, sym, ap, ◌∙◌}
use native.Mathlib.Decide.{ℕ_discrete}
use native.Mathlib.Omega.{arith}
use Rattle.faults.proofs.Answers.{hung_policy_refused, hung_other, hung_found}
use Rattle.faults.proofs.Searches.{opposite, name_at, not_spaces}
use Rattle.faults.specs.Faults.{no_name, is_ill_hung, ill_hung}
use Rattle.faults.specs.Words.{RightByte, of_top, of_other, IllHung}
use Rattle.format.proofs.Search.{found_at, not_found}
use Rattle.format.specs.Search.{first_from}
use Rattle.order.specs.Order.{AtOrBelow}
use Rattle.plan_answers.proofs.PolicyOrder.{policy_order}
use Rattle.plan_answers.proofs.TreeNumbers.{top_hangs, above_hangs, tree_refusal_12}
use Rattle.plan_answers.proofs.WeighAnswer.{weigh_policy_refused, weigh_number}
use Rattle.plan_answers.specs.Planned.{at_or_below}
use Rattle.plan_answers.specs.TreeFile.{parent_in, hangs_at, tree_refusal}
use Rattle.plan_answers.specs.TreeRows.{WrongByte, top_byte_lem, not_higher}
use Rattle.plan_answers.specs.Weighing.{weigh_of}
use Rattle.plan_answers.specs.declared.Weighed.{Weighed}
use Rattle.policy_file.proofs.Demand1.{refusal_range}
use Rattle.policy_file.proofs.Lawful.{lawful}
use Rattle.policy_file.specs.Whole.{policy_refusal, label_count, pairs_of, AcceptedPolicy}
use Rattle.trees.proofs.Order.{is_top}
use Rattle.trees.specs.Order.{Order}
use Rattle.trees.specs.Trees.{top}

-- label m's byte: the test says whether it is right
module _ {n : ℕ} {R : ℕ → ℕ → Type 0} {le : ℕ → ℕ → Bool} (O : Order n R le) (tree : List ℕ) (m : ℕ) (label : m < n) where
  abbrev hangs : Bool
  hangs = hangs_at le tree m

  right_byte : hangs ≡ true → RightByte n R tree m
  right_byte e = go (is_top m)
    where
      go : (m ≡ top) ⊎ (m ≢ top) → RightByte n R tree m
      go (inl z) = of_top z (ap (parent_in tree) z ∙ (top_hangs O tree).0 (sym (ap (hangs_at le tree) z) ∙ e))
      go (inr ne) = of_other ne ((above_hangs O tree m label ne).0 e)

  byte_right : RightByte n R tree m → hangs ≡ true
  byte_right (of_top z e) = ap (hangs_at le tree) z ∙ (top_hangs O tree).1 (sym (ap (parent_in tree) z) ∙ e)
  byte_right (of_other ne a) = (above_hangs O tree m label ne).1 a

-- in a file with a wrong byte not every byte is right
none_wrong : {n : ℕ} {R : ℕ → ℕ → Type 0} {le : ℕ → ℕ → Bool} (O : Order n R le) (tree : List ℕ) → WrongByte n R tree
    → ((m : ℕ) → m < n → RightByte n R tree m) → ⊥
none_wrong {n} {R} O tree (top_byte_lem wrong) all = go (all top O.some)
  where
    go : RightByte n R tree top → ⊥
    go (of_top z e) = wrong e
    go (of_other ne a) = ne refl
none_wrong {n} {R} O tree (not_higher m label ne wrong) all = go (all m label)
  where
    go : RightByte n R tree m → ⊥
    go (of_top z e) = ne z
    go (of_other _ a) = wrong a

module _ (policy tree : List ℕ) where
  abbrev n : ℕ
  n = label_count policy

  abbrev R : ℕ → ℕ → Type 0
  R = AtOrBelow (pairs_of policy)

  abbrev le : ℕ → ℕ → Bool
  le = at_or_below policy

  meant_at : AcceptedPolicy policy → tree_refusal n le tree ≡ 12 → IllHung policy tree (ill_hung policy tree)
  unfolding is_ill_hung
  meant_at ok twelve = go (first_from (is_ill_hung le tree) 0 n) refl
    where
      O : Order n R le
      O = policy_order policy ok

      go : (f : Option ℕ) → first_from (is_ill_hung le tree) 0 n ≡ f → IllHung policy tree (ill_hung policy tree)
      go (Some m) e =
          let f = found_at (is_ill_hung le tree) n 0 m e in
          let below : m < n = omega (arith, f.below) in
          record {
            accepted = ok;
            form = ((tree_refusal_12 O tree).0 twelve).form;
            label = m;
            below = below;
            wrong = λ r. false≢true (sym (opposite (hangs_at le tree m) f.here) ∙ byte_right O tree m below r);
            before = λ l h. right_byte O tree l (omega arith) (opposite (hangs_at le tree l) (f.before l (omega arith) h));
            named = hung_found policy tree ok twelve ∙ name_at policy m e;
          }
      go None e =
          absurd (none_wrong O tree ((tree_refusal_12 O tree).0 twelve).byte
          (λ m h. right_byte O tree m h (opposite (hangs_at le tree m) (not_found (is_ill_hung le tree) n 0 e m (omega arith) (omega arith)))))

  -- 12 is answered of an accepted policy alone
  pub ill_hung_meant : (weigh_of policy tree).refusal ≡ 12 → IllHung policy tree (ill_hung policy tree)
  ill_hung_meant e = go (ℕ_discrete (policy_refusal policy) 0)
    where
      go : Dec (policy_refusal policy ≡ 0) → IllHung policy tree (ill_hung policy tree)
      go (yes ok) = meant_at ok (sym (weigh_number policy tree ok) ∙ e)
      go (no bad) =
          let number : (weigh_of policy tree).refusal ≡ policy_refusal policy = ap (λ (w : Weighed). w.refusal) (weigh_policy_refused policy tree (omega arith)) in
          absurd (omega (arith, refusal_range policy))

  pub ill_hung_none : (weigh_of policy tree).refusal ≢ 12 → ill_hung policy tree ≡ no_name
  ill_hung_none other = go (ℕ_discrete (policy_refusal policy) 0)
    where
      go : Dec (policy_refusal policy ≡ 0) → ill_hung policy tree ≡ no_name
      go (yes ok) = hung_other policy tree ok (λ e. other (weigh_number policy tree ok ∙ e))
      go (no bad) = hung_policy_refused policy tree bad

  -- no label is called eight spaces
  pub ill_hung_iff : ((weigh_of policy tree).refusal ≡ 12) ↔ (ill_hung policy tree ≢ no_name)
  ill_hung_iff = (there, back)
    where
      there : (weigh_of policy tree).refusal ≡ 12 → ill_hung policy tree ≢ no_name
      there twelve e = let s = ill_hung_meant twelve in not_spaces ((lawful policy s.accepted).formed s.label s.below) (sym s.named ∙ e)

      back : ill_hung policy tree ≢ no_name → (weigh_of policy tree).refusal ≡ 12
      back some = go (ℕ_discrete (weigh_of policy tree).refusal 12)
        where
          go : Dec ((weigh_of policy tree).refusal ≡ 12) → (weigh_of policy tree).refusal ≡ 12
          go (yes e) = e
          go (no other) = absurd (some (ill_hung_none other))
