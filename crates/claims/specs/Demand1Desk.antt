-- Demand 1 for key envelopes and the desk: "A .. key envelope that is handed in, be it empty, cut short or noise, comes out either read or refused
-- under a number from the list. A refused one yields zeros beside that number and changes nothing in the memory lent with it." The desk is lent
-- no memory to change. The rows of 01's table stand in words in the envelope_file crate's specs/Rows.antt.
use Rattle.std.specs.Prelude.{ℕ, ◌*◌, ◌<◌, ◌↔◌, ◌⊎◌, ◌≡◌}
use mathlib.Core.List.{List, Memᴰ}
use Rattle.envelope_file.specs.Derive.{refused_derived, derived_of}
use Rattle.envelope_file.specs.File.{name_in}
use Rattle.envelope_file.specs.Labels.{refused_labels, envelope_labels}
use Rattle.envelope_file.specs.Rows.{NoHeader, Header, EnvelopePasses, RefusedAt, NoMark, CutShort, TooMany, BadName, NameCarried, NoHolder, LatePlace, NoneRefuses, ReachedInEnvelope, NotIn, DerivedBy, envelope_numbers}
use Rattle.envelope_file.specs.Whole.{envelope_refusal, records_of, envelope_records_read, AcceptedEnvelope}
use Rattle.format.specs.Bytes.{bytes_at}

-- an envelope, and any name asked for
pub record Demand1OfEnvelope (file : List ℕ) : Type 0 where
  -- "comes out either read or refused under a number from the list"
  pub answered : AcceptedEnvelope file ⊎ Memᴰ (envelope_refusal file) envelope_numbers
  -- 01: "Given when, and only when reached": a number is answered exactly when all records before pass and its row holds
  pub no_header : (envelope_refusal file ≡ 17) ↔ NoHeader file
  pub no_mark : (envelope_refusal file ≡ 2) ↔ ReachedInEnvelope file NoMark
  pub cut_short : (envelope_refusal file ≡ 3) ↔ ReachedInEnvelope file CutShort
  pub too_many : (envelope_refusal file ≡ 5) ↔ ReachedInEnvelope file TooMany
  pub bad_name : (envelope_refusal file ≡ 6) ↔ ReachedInEnvelope file BadName
  pub name_carried : (envelope_refusal file ≡ 7) ↔ ReachedInEnvelope file NameCarried
  pub no_holder : (envelope_refusal file ≡ 18) ↔ ReachedInEnvelope file NoHolder
  pub late_place : (envelope_refusal file ≡ 19) ↔ ReachedInEnvelope file LatePlace
  pub accepted : AcceptedEnvelope file ↔ NoneRefuses file (records_of file)
  -- `records_read` answers where reading stops, for every envelope: how many records stand before the first refused one, or all of them when it is read;
  -- none with a refused header
  pub read_before : (k n : ℕ) → Header file → EnvelopePasses file k → RefusedAt file k n → envelope_records_read file ≡ k
  pub read_all : AcceptedEnvelope file → envelope_records_read file ≡ records_of file
  pub read_none : NoHeader file → envelope_records_read file ≡ 0
  -- `derive`: the envelope's refusal first, then 20; "A refused one yields zeros beside that number"
  pub envelope_first : (name : List ℕ) → 0 < envelope_refusal file → derived_of file name ≡ refused_derived (envelope_refusal file)
  pub not_in : (name : List ℕ) → AcceptedEnvelope file → ((derived_of file name).refusal ≡ 20) ↔ NotIn file (records_of file) name
  pub zeros : (name : List ℕ) → 0 < (derived_of file name).refusal → derived_of file name ≡ refused_derived (derived_of file name).refusal
  -- else the key by the path to the first record that carries the name, whoever wrote the envelope
  pub derived : (name : List ℕ) → (derived_of file name).refusal ≡ 0 → DerivedBy file name (derived_of file name)
  -- `read_labels`: the envelope's refusal, with zeros beside that number, else the name of each record, 8 bytes each, in their order
  pub labels_refusal : (envelope_labels file).refusal ≡ envelope_refusal file
  pub labels_zeros : 0 < (envelope_labels file).refusal → envelope_labels file ≡ refused_labels (envelope_labels file).refusal
  pub labels_named : AcceptedEnvelope file → (k : ℕ) → k < records_of file → bytes_at (envelope_labels file).names (8 * k) 8 ≡ name_in file k
