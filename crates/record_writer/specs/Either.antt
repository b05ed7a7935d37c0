-- The record of one label as it is written.
use Rattle.std.specs.Prelude.{ℕ, Bool, cond, List}
use Rattle.envelopes.specs.Envelope.{held_record, under_record}

-- a label's record: its secret if that is held, else the place of its parent's record
abbrev pub label_record : (held : Bool) (name secret : List ℕ) (place : ℕ) → List ℕ
label_record held name secret place = cond held (held_record name secret) (under_record name place)
