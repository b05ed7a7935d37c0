-- `roster_texts::plan_dot_roster` meets its contract.
use Rattle.std.proofs.Common.{rules}
use Rattle.plan_texts.specs.DrawingAnswer.{drawing_written, drawing_after}
use Rattle.roster_answers.specs.Counted.{roster_drawing_written, roster_drawing_after}
use Rattle.rosters.proofs.Answering.{written_is}
use Rattle.roster_texts.proofs.plan_dot_roster.Goals as goal

pub returns : goal.returns
unfolding roster_drawing_written roster_drawing_after
returns c = written_is drawing_written drawing_after c.write_counted.ensures (λ read lent r left met. search rules)
