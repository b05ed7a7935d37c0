-- `roster_issuer::issuer_key_roster` meets its contract.
use Rattle.std.proofs.Common.{rules, List, ℕ}
use Rattle.issuer_answers.specs.Keys.{issuer_key_of, refused_key}
use Rattle.roster_answers.specs.Counted.{roster_key}
use Rattle.rosters.proofs.Answering.{counting_is}
use Rattle.roster_issuer.proofs.issuer_key_roster.Goals as goal

pub returns : goal.returns
unfolding roster_key
returns c =
    counting_is refused_key (λ (file : List ℕ). issuer_key_of file c.args.name.now c.args.root.now) c.on_counted.ensures (search rules) (λ file a made. search rules)
