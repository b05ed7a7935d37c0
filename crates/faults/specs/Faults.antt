-- Which label refusals 10 and 12 mean, by its name.
use Rattle.std.specs.Prelude.{ℕ, ◌+◌, ◌-◌, ◌*◌, ◌≤◌, Bool, cond, not, List, ◌≡◌, eqb, length, replicate, None, Option, Some}
use Rattle.format.specs.Search.{first_from}
use Rattle.order.specs.declared.Pair.{Pair}
use Rattle.plan_answers.specs.Planned.{at_or_below}
use Rattle.plan_answers.specs.TreeFile.{hangs_at}
use Rattle.plan_answers.specs.Weighing.{weigh_refusal}
use Rattle.policy_file.specs.File.{name_of}
use Rattle.policy_file.specs.Whole.{stop_of, is_lower, label_count}
use Rattle.policy_file.specs.declared.Policy.{Policy}

-- eight spaces: no label
abbrev pub no_name : List ℕ
no_name = replicate 8 32

-- the name of the label found
unfoldable pub name_found : List ℕ → Option ℕ → List ℕ
name_found policy (Some m) = name_of policy m
name_found policy None = no_name

-- the label found, if there is one, lies within the file
abbrev pub Inside : List ℕ → Option ℕ → Type 0
Inside policy found = (m : ℕ) → found ≡ Some m → 12 * m + 12 ≤ length policy

-- ---- 10, "a label other than 0 is never the lower of a pair"

unfoldable pub is_no_lower : List Pair → (pairs : ℕ) → ℕ → Bool
is_no_lower over pairs m = not (is_lower over pairs m)

-- the first such label from label 1 on, of a file that was read to its end
unfoldable pub no_lower_at : Policy → Option ℕ
no_lower_at stop = cond (eqb stop.refusal 0) (first_from (is_no_lower stop.over stop.pairs) 1 (stop.labels - 1)) None

unfoldable pub second_top : List ℕ → List ℕ
second_top policy = name_found policy (no_lower_at (stop_of policy))

-- ---- 12, "first byte that is no strictly higher label, or top's byte not 0"

unfoldable pub is_ill_hung : (le : ℕ → ℕ → Bool) → List ℕ → ℕ → Bool
is_ill_hung le tree m = not (hangs_at le tree m)

-- the first label with such a byte, where 12 is the answer
unfoldable pub ill_hung_at : List ℕ → List ℕ → Option ℕ
ill_hung_at policy tree =
    cond (eqb (weigh_refusal policy tree) 12) (first_from (is_ill_hung (at_or_below policy) tree) 0 (label_count policy)) None

unfoldable pub ill_hung : List ℕ → List ℕ → List ℕ
ill_hung policy tree = name_found policy (ill_hung_at policy tree)
