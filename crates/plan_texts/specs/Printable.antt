-- What the functions that write a plan ask of it.
use Rattle.std.specs.Prelude.{ℕ, ◌*◌, ◌≤◌, ◌<◌, List, length, get_or}
use Rattle.plan_answers.specs.declared.Plan.{Plan}

-- the plan's labels lie within the file, and each of their parents is one of them
pub record Printable (file : List ℕ) (plan : Plan) : Type 0 where
  pub few : plan.labels ≤ 64
  pub within : 12 * plan.labels ≤ length file
  pub parents : (m : ℕ) → m < plan.labels → get_or plan.parents m 0 < plan.labels
