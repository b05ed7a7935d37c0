-- What `second_top` and `ill_hung` answer, by the tests that lead there.
use Rattle.std.specs.Prelude.{Option}
use Prim.Native.Nat.{ℕ, ◌+◌, ◌-◌, ◌≤◌}
use mathlib.Core.List.{List}
use mathlib.Core.Logic.{◌≢◌}
use mathlib.Core.Path.{◌≡◌, sym, ◌∙◌}
use native.Mathlib.Omega.{arith}
use borrow.Author.Tests.{eq-eqb, ne_eqb}
use lib.ListN.{length}
use Rattle.faults.specs.Faults.{no_name, name_found, Inside, is_no_lower, no_lower_at, second_top, is_ill_hung, ill_hung_at, ill_hung}
use Rattle.faults.proofs.Searches.{name_none, found_inside}
use Rattle.format.specs.Search.{first_from}
use Rattle.plan_answers.proofs.PolicyOrder.{policy_order}
use Rattle.plan_answers.proofs.TreeNumbers.{tree_refusal_12}
use Rattle.plan_answers.specs.Planned.{at_or_below}
use Rattle.plan_answers.specs.TreeFile.{tree_refusal}
use Rattle.plan_answers.specs.Weighing.{weigh_refusal}
use Rattle.policy_file.proofs.Demand1.{refusal_range}
use Rattle.policy_file.proofs.Stopping.{stop_bounds}
use Rattle.policy_file.proofs.Verdict.{bounds}
use Rattle.policy_file.specs.File.{place_of}
use Rattle.policy_file.specs.Whole.{policy_refusal, label_count, AcceptedPolicy, stop_of}
use Rattle.policy_file.specs.declared.Policy.{Policy}

-- ---- `second_top`, from where reading stops

module _ (policy : List ℕ) {s : Policy} (stop : s ≡ stop_of policy) where
  pub stop_few : (s.labels ≤ 64) × (s.pairs ≤ 512)
  stop_few = let b = stop_bounds policy in rw stop (b.0, b.1)

  -- at a refused record
  pub second_refused : s.refusal ≢ 0 → second_top policy ≡ no_name
  unfolding second_top no_lower_at
  second_refused ne = rw (← stop) (name_none policy (rw (ne_eqb s.refusal 0 ne)))

  -- at the end
  module _ {found : Option ℕ} (e : found ≡ first_from (is_no_lower s.over s.pairs) 1 (s.labels - 1)) where
    pub second_inside : Inside policy found
    second_inside =
        found_inside policy (is_no_lower s.over s.pairs) 1 (s.labels - 1) e (λ m a b.
        let w : place_of s.labels s.pairs ≤ length policy = rw stop (stop_bounds policy).2 in omega arith)

    pub second_found : s.refusal ≡ 0 → second_top policy ≡ name_found policy found
    unfolding second_top no_lower_at
    second_found z = rw (← stop, eq-eqb s.refusal 0 z, e)

-- ---- `ill_hung`, from the refusals of the two files

module _ (policy tree : List ℕ) where
  not_twelve : weigh_refusal policy tree ≢ 12 → ill_hung policy tree ≡ no_name
  unfolding ill_hung ill_hung_at
  not_twelve ne = name_none policy (rw (ne_eqb (weigh_refusal policy tree) 12 ne))

  pub hung_policy_refused : policy_refusal policy ≢ 0 → ill_hung policy tree ≡ no_name
  unfolding weigh_refusal
  hung_policy_refused ne = not_twelve (λ e. let number : policy_refusal policy ≡ 12 = sym (rw (ne_eqb (policy_refusal policy) 0 ne)) ∙ e in omega (arith, refusal_range policy))

  module _ (ok : AcceptedPolicy policy) where
    abbrev number : ℕ
    number = tree_refusal (label_count policy) (at_or_below policy) tree

    same_number : weigh_refusal policy tree ≡ number
    unfolding weigh_refusal
    same_number = rw (eq-eqb (policy_refusal policy) 0 ok)

    pub hung_other : number ≢ 12 → ill_hung policy tree ≡ no_name
    hung_other ne = not_twelve (λ e. ne (sym same_number ∙ e))

    module _ (twelve : number ≡ 12) where
      pub hung_whole : length tree ≡ 2 + label_count policy
      hung_whole = ((tree_refusal_12 (policy_order policy ok) tree).0 twelve).form.whole

      pub hung_found : ill_hung policy tree ≡ name_found policy (first_from (is_ill_hung (at_or_below policy) tree) 0 (label_count policy))
      unfolding ill_hung ill_hung_at
      hung_found = rw (eq-eqb (weigh_refusal policy tree) 12 (same_number ∙ twelve))

  pub hung_inside : {found : Option ℕ} → found ≡ first_from (is_ill_hung (at_or_below policy) tree) 0 (label_count policy) → Inside policy found
  hung_inside e = found_inside policy (is_ill_hung (at_or_below policy) tree) 0 (label_count policy) e (λ m a b. omega (arith, (bounds policy).2))
