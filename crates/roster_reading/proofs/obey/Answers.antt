-- `roster_reading::obey` meets its contract: a record that was refused as it was read changes nothing.
use Rattle.std.proofs.Common.{refl}
use Rattle.roster_file.specs.Machine.{asked_of}
use Rattle.roster_reading.proofs.obey.Goals as goal

pub returns-in-Refused : goal.returns-in-Refused
unfolding asked_of
returns-in-Refused c = rw c.in-Refused.is (refl, refl)
