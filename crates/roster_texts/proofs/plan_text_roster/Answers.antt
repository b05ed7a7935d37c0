-- `roster_texts::plan_text_roster` meets its contract.
use Rattle.std.proofs.Common.{rules}
use Rattle.plan_texts.specs.TextAnswer.{text_written, text_after}
use Rattle.roster_answers.specs.Counted.{roster_text_written, roster_text_after}
use Rattle.rosters.proofs.Answering.{written_is}
use Rattle.roster_texts.proofs.plan_text_roster.Goals as goal

pub returns : goal.returns
unfolding roster_text_written roster_text_after
returns c = written_is text_written text_after c.write_counted.ensures (λ read lent r left met. search rules)
