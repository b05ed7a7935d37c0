-- `move_to` meets its contract: the account takes the step that the record asks for.
use Rattle.std.proofs.Common.{rules, refl}
use Rattle.roster_file.specs.Machine.{asked_of, moving}
use Rattle.roster_records.proofs.Law.{altered_is}
use Rattle.roster_records.proofs.move_to.Goals as goal

pub returns : goal.returns
unfolding asked_of
returns c = altered_is (moving c.args.target) 25 c.alter.ensures (λ lacks. refl) (λ account taken took. search rules)
