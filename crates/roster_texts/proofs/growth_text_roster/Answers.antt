-- `roster_texts::growth_text_roster` meets its contract.
use Rattle.std.proofs.Common.{rules}
use Rattle.growth_answers.specs.GrowthTextAnswer.{growth_written, growth_after}
use Rattle.roster_answers.specs.Counted.{roster_growth_written, roster_growth_after}
use Rattle.rosters.proofs.Answering.{written_is}
use Rattle.roster_texts.proofs.growth_text_roster.Goals as goal

pub returns : goal.returns
unfolding roster_growth_written roster_growth_after
returns c = written_is growth_written growth_after c.write_counted.ensures (λ read lent r left met. search rules)
