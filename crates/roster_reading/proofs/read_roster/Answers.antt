-- `roster_reading::read_roster` meets its contract.
use Rattle.std.proofs.Common.{◌∙◌}
use Rattle.roster_file.specs.Whole.{stop_of}
use Rattle.roster_reading.proofs.read_roster.Goals as goal

pub returns : goal.returns
unfolding stop_of
returns c = rw (← c.empty-roster.ensures) (c.stop.ensures ∙ c.read_records-place.ensures)
