-- `roster_plans::weigh_roster` meets its contract.
use Rattle.std.proofs.Common.{rules, List, ℕ}
use Rattle.plan_answers.specs.Weighing.{refused_weighed, weigh_of}
use Rattle.roster_answers.specs.Counted.{roster_weighed}
use Rattle.rosters.proofs.Answering.{counting_is}
use Rattle.roster_plans.proofs.weigh_roster.Goals as goal

pub returns : goal.returns
unfolding roster_weighed
returns c =
    counting_is refused_weighed (λ (file : List ℕ). weigh_of file c.args.tree.now) c.on_counted.ensures (search rules) (λ file a made. search rules)
