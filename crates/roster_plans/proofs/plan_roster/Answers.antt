-- `roster_plans::plan_roster` meets its contract.
use Rattle.std.proofs.Common.{rules}
use Rattle.plan_answers.specs.Planned.{refused_plan, plan_of}
use Rattle.roster_answers.specs.Counted.{roster_plan}
use Rattle.rosters.proofs.Answering.{counting_is}
use Rattle.roster_plans.proofs.plan_roster.Goals as goal

pub returns : goal.returns
unfolding roster_plan
returns c =
    counting_is refused_plan plan_of c.on_counted.ensures (search rules) (λ file a made. search rules)
