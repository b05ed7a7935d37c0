-- `roster_issuer::seal_roster` meets its contract.
use Rattle.std.proofs.Common.{rules, List, ℕ}
use Rattle.roster_answers.specs.Counted.{roster_sealed, roster_file_after}
use Rattle.rosters.proofs.Answering.{written_is}
use Rattle.seal_answers.specs.Seal.{sealed_of, file_after}
use Rattle.roster_issuer.proofs.seal_roster.Goals as goal

pub returns : goal.returns
unfolding roster_sealed roster_file_after
returns c =
    let a = c.args in
    written_is (λ (file : List ℕ) (room : ℕ). sealed_of file a.name.now a.root.now a.nonce.now a.text.now room)
    (λ (file buffer : List ℕ). file_after file a.name.now a.root.now a.nonce.now a.text.now buffer)
    c.write_counted.ensures (λ read lent r left met. search rules)
