-- How a call of `yendlowa seal` ends.
use Rattle.std.specs.Prelude.{ℕ, Bool, List}
use Rattle.fingerprint.specs.Fingerprint.{fingerprint_of}
use Rattle.lines.specs.Lines.{sealed_text}
use Rattle.outcomes.specs.Status.{Ends}
use Rattle.outcomes.specs.declared.Ended.{Ended}
use Rattle.seal_answers.specs.Seal.{sealed_of}

-- as `seal` answers on some bytes, those that the system read, for a buffer of 32,806 bytes
abbrev pub SealEnds : (option : Bool) → Ended → Type 0
SealEnds option e = (policy : List ℕ) × (name : List ℕ) × (root : List ℕ) × (nonce : List ℕ) × (text : List ℕ)
    × Ends (sealed_of policy name root nonce text 32806).refusal (sealed_text (sealed_of policy name root nonce text 32806).length (fingerprint_of root).bytes option) e
