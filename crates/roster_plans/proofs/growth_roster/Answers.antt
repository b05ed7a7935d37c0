-- `roster_plans::growth_roster` meets its contract.
use Rattle.std.proofs.Common.{rules}
use Rattle.growth_answers.specs.Growing.{refused_growth, growth_of}
use Rattle.roster_answers.specs.Counted.{roster_growth}
use Rattle.rosters.proofs.Answering.{counting_is}
use Rattle.roster_plans.proofs.growth_roster.Goals as goal

pub returns : goal.returns
unfolding roster_growth
returns c =
    counting_is refused_growth growth_of c.on_counted.ensures (search rules) (λ file a made. search rules)
