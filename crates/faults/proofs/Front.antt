-- The label that is meant follows from a policy's first 2,828 bytes and a tree file's first 67: longer files are refused under other numbers.
use Prim.Native.Nat.{ℕ, ◌≤◌}
use mathlib.Core.List.{List}
use mathlib.Core.Path.{◌≡◌, sym, ap, ap₂, ◌∙◌}
use native.Mathlib.Decide.{ℕ_discrete}
use native.Mathlib.Omega.{arith}
use lib.ListN.{take}
use lib.Seq.{take_all}
use Rattle.faults.proofs.MeantBy10.{second_top_meant, second_top_none}
use Rattle.faults.proofs.MeantBy12.{ill_hung_meant, ill_hung_none}
use Rattle.faults.specs.Faults.{second_top, ill_hung}
use Rattle.plan_answers.proofs.Front.{weigh_front, weigh_tree_front}
use Rattle.plan_answers.specs.Weighing.{weigh_of}
use Rattle.plan_answers.specs.declared.Weighed.{Weighed}
use Rattle.policy_file.proofs.Front.{front_answers}
use Rattle.policy_file.proofs.Lawful.{lawful}
use Rattle.policy_file.proofs.Passing.{labels_bound, pairs_bound}
use Rattle.policy_file.specs.Whole.{policy_refusal}
use Rattle.policy_file.specs.declared.Policy.{Policy}

module _ (n : ℕ) (enough : 2828 ≤ n) (policy : List ℕ) where
  pub second_top_front : second_top policy ≡ second_top (take n policy)
  second_top_front = go (ℕ_discrete (policy_refusal policy) 10)
    where
      go : Dec (policy_refusal policy ≡ 10) → second_top policy ≡ second_top (take n policy)
      go (yes ten) =
          let s = second_top_meant policy ten in
          ap second_top (sym (take_all n policy (omega (arith, s.ends, labels_bound s.passes, pairs_bound s.passes))))
      go (no other) =
          let same = ap (λ (p : Policy). p.refusal) (front_answers n enough policy) in
          second_top_none policy other ∙ sym (second_top_none (take n policy) (λ e. other (same ∙ e)))

  pub ill_hung_front : (k : ℕ) → 67 ≤ k → (tree : List ℕ) → ill_hung policy tree ≡ ill_hung (take n policy) (take k tree)
  ill_hung_front k long tree = go (ℕ_discrete (weigh_of policy tree).refusal 12)
    where
      same : (weigh_of policy tree).refusal ≡ (weigh_of (take n policy) (take k tree)).refusal
      same = ap (λ (w : Weighed). w.refusal) (weigh_front n enough policy tree ∙ weigh_tree_front k long (take n policy) tree)

      go : Dec ((weigh_of policy tree).refusal ≡ 12) → ill_hung policy tree ≡ ill_hung (take n policy) (take k tree)
      go (yes twelve) =
          let s = ill_hung_meant policy tree twelve in
          let l = lawful policy s.accepted in
          ap₂ ill_hung (sym (take_all n policy (omega (arith, l.whole, l.few_labels, l.few_pairs))))
          (sym (take_all k tree (omega (arith, s.form.whole, l.few_labels))))
      go (no other) =
          ill_hung_none policy tree other ∙ sym (ill_hung_none (take n policy) (take k tree) (λ e. other (same ∙ e)))
