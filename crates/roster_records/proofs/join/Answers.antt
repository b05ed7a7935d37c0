-- `join` meets its contract: the account takes the step that the record asks for.
use Rattle.std.proofs.Common.{rules}
use Rattle.roster_file.specs.Machine.{asked_of, joining}
use Rattle.roster_records.proofs.Law.{altered_is}
use Rattle.roster_records.proofs.join.Goals as goal

pub returns : goal.returns
unfolding asked_of
returns c = altered_is (joining c.args.number c.args.target) 24 c.alter.ensures (λ lacks. rw lacks) (λ account taken took. search rules)
