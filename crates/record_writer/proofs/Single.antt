-- Laws of one label's record.
use Prim.Native.Nat.{ℕ}
use mathlib.Core.Bool.{Bool, true, false}
use mathlib.Core.List.{List}
use mathlib.Core.Path.{◌≡◌, sym, ap, ◌∙◌}
use Rattle.envelopes.specs.Envelope.{held_record, under_record}
use Rattle.record_writer.specs.Either.{label_record}

-- a record, by whether the secret is held
module _ (own name secret : List ℕ) (place : ℕ) (held : Bool) (n : own ≡ name) where
  pub held_record_lem : held ≡ true → held_record own secret ≡ label_record held name secret place
  held_record_lem t = ap (λ (s : List ℕ). held_record s secret) n ∙ ap (λ (h : Bool). label_record h name secret place) (sym t)

  pub under_record_lem : held ≡ false → under_record own place ≡ label_record held name secret place
  under_record_lem f = ap (λ (s : List ℕ). under_record s place) n ∙ ap (λ (h : Bool). label_record h name secret place) (sym f)
