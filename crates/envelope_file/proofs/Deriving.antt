-- What `derive` knows of an envelope that it has read.
use Rattle.std.specs.Prelude.{Some}
use Prim.Native.Nat.{ℕ, ◌<◌}
use mathlib.Core.List.{List}
use mathlib.Core.Path.{◌≡◌, refl, sym, ap, subst, ◌∙◌}
use native.Mathlib.Omega.{arith}
use lib.ListN.{length}
use Rattle.envelope_file.proofs.Asked.{asked_at, asked_refused, asked_read}
use Rattle.envelope_file.proofs.Lawful.{located, placed, falling, whole_length}
use Rattle.envelope_file.proofs.Meaning.{name_at}
use Rattle.envelope_file.specs.Derive.{refused_derived, on_found, record_asked, derived_of}
use Rattle.envelope_file.specs.File.{start_of}
use Rattle.envelope_file.specs.Reads.{Located, Placed, Falling}
use Rattle.envelope_file.specs.Whole.{contents_of, records_of, AcceptedEnvelope}
use Rattle.envelope_file.specs.declared.Contents.{Contents}

-- an envelope that is refused
pub refused_answer : (file name : List ℕ) (read : Contents) → read ≡ contents_of file → 0 < read.refusal
    → derived_of file name ≡ refused_derived read.refusal
refused_answer file name read same some =
    let number = ap (λ (c : Contents). c.refusal) same in
    asked_refused file name (omega (arith, number)) ∙ ap refused_derived (sym number)

-- an envelope that is read: its tables, and the search among its records
module _ (file : List ℕ) (read : Contents) (same : read ≡ contents_of file) (none : read.refusal ≡ 0) where
  accepted_read : AcceptedEnvelope file
  accepted_read = sym (ap (λ (c : Contents). c.refusal) same) ∙ none

  pub read_located : Located file read.starts read.records
  read_located = subst (λ (c : Contents). Located file c.starts c.records) (sym same) (located file accepted_read)

  pub read_placed : Placed file read.places read.records
  read_placed = subst (λ (c : Contents). Placed file c.places c.records) (sym same) (placed file accepted_read)

  pub read_falling : Falling file read.records
  read_falling = subst (λ (c : Contents). Falling file c.records) (sym same) (falling file accepted_read)

  pub read_whole : length file ≡ start_of file read.records
  read_whole = whole_length file accepted_read ∙ ap (λ (c : Contents). start_of file c.records) (sym same)

  -- what the search among its records leads to is what `derive` answers
  pub read_derived : (name : List ℕ) → on_found file (record_asked file read.records name) ≡ derived_of file name
  read_derived name =
      ap (λ (c : Contents). on_found file (record_asked file c.records name)) same
      ∙ sym (asked_read file name accepted_read (record_asked file (records_of file) name) refl)

-- a record that was asked for is among those read
pub asked_below : (file : List ℕ) (records : ℕ) (name : List ℕ) (k : ℕ) → record_asked file records name ≡ Some k → k < records
asked_below file records name k e = (name_at file name records k (asked_at file records name k e)).below
