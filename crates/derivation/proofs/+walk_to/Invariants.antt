use Rattle.derivation.proofs.+walk_to.Given as goal

-- the record's place falls
abbrev pub decreases-walk_to : goal.decreases-walk_to
decreases-walk_to l = l.k
