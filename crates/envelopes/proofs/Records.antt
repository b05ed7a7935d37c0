-- What the desk reads of the record of a label m at or below l, which has the place `place_below le l m`.
use Prim.Native.Nat.{ℕ, ◌+◌, ◌≤◌, ◌<◌}
use mathlib.Core.Bool.{Bool, true, false, cond}
use mathlib.Core.List.{List}
use mathlib.Core.Path.{◌≡◌, ap, ◌∙◌}
use native.Mathlib.Omega.{arith}
use lib.ListN.{length}
use Rattle.envelope_file.specs.File.{held_at, record_size, start_of, is_held, name_in, secret_in, place_in}
use Rattle.envelope_file.specs.Rows.{mark_of}
use Rattle.format.specs.Bytes.{bytes_at}
use Rattle.format.specs.Marks.{KS, KD}
use Rattle.trees.specs.Weights.{in_smallest}
use Rattle.envelopes.specs.Envelope.{place_below, record_of, records_below, envelope_of}
use Rattle.envelopes.specs.Labels.{Labels, Issue}
use Rattle.envelopes.specs.Secrets.{secret_of}
use Rattle.envelopes.proofs.OneRecord.{record_name, record_secret, record_place_lem}
use Rattle.envelopes.proofs.Secrets.{secret_length}
use Rattle.envelopes.proofs.Stands.{Stands, stands_bytes, stands_byte, stands_within}
use Rattle.envelopes.proofs.Written.{stands_record, sized, marked, marked_held, starts}

module _ {n : ℕ} {R : ℕ → ℕ → Type 0} {le : ℕ → ℕ → Bool} {name : ℕ → List ℕ} {parent : ℕ → ℕ} (L : Labels n R le name parent)
    {l account : ℕ} {root : List ℕ} (I : Issue n l account root) (m : ℕ) (hm : m < n) (below : le m l ≡ true) where
  abbrev file : List ℕ
  file = envelope_of name le parent root l n account

  abbrev k : ℕ
  k = place_below le l m

  abbrev held : Bool
  held = in_smallest le parent l m

  start : start_of file k ≡ 12 + length (records_below name le parent root l m)
  start = starts L I m (omega arith)

  stands : Stands file (start_of file k) (record_of name le parent root l m)
  stands = rw start (stands_record L I m hm below)

  -- "`KS` .. for a label in the smallest set", "`KD` .. otherwise"
  pub reads_mark : mark_of file k ≡ cond held KS KD
  reads_mark = ap (λ (at : ℕ). bytes_at file at 2) start ∙ marked L I m hm below

  pub reads_held : is_held file k ≡ held
  unfolding is_held
  reads_held = ap (held_at file) start ∙ marked_held L I m hm below

  -- the whole record
  pub reads_whole : start_of file k + record_size held ≤ length file
  reads_whole = omega (arith, sized L I m hm, stands_within stands)

  roomy : (b : Bool) → 11 ≤ record_size b
  roomy true = omega arith
  roomy false = omega arith

  pub reads_name : name_in file k ≡ name m
  unfolding name_in
  reads_name =
      stands_bytes stands 2 8 (omega (arith, sized L I m hm, roomy held)) ∙ record_name name le parent root l m (L.eight m hm)

  -- the issuer's secret of the label, where it is held
  pub reads_secret : held ≡ true → secret_in file k ≡ secret_of name parent root m
  unfolding secret_in
  reads_secret e =
      let whole : 42 ≤ length (record_of name le parent root l m) = omega (arith, sized L I m hm ∙ ap record_size e) in
      stands_bytes stands 10 32 whole ∙ record_secret name le parent root l m (L.eight m hm) (secret_length name parent root I.secret m) e

  -- the place of its parent's record, where it is not
  pub reads_place : held ≡ false → place_in file k ≡ place_below le l (parent m)
  unfolding place_in
  reads_place e =
      stands_byte stands 10 (omega (arith, sized L I m hm, roomy held)) ∙ record_place_lem name le parent root l m (L.eight m hm) e
