-- The laws of envelopes that other files and crates use.
use Prim.Native.Nat.{ℕ, ◌+◌, ◌≤◌, ◌<◌}
use mathlib.Core.Bool.{true, false, false≢true}
use mathlib.Core.List.{List}
use mathlib.Core.Path.{◌≡◌, refl, sym, ap, ◌∙◌}
use native.Mathlib.Omega.{arith}
use lib.ListN.{length, get_or, length-take, length-drop}
use Rattle.format.specs.Form.{NameForm}
use Rattle.lists.proofs.Tables.{get_d_filled}
use Rattle.lists.specs.Tables.{filled}
use Rattle.envelope_file.proofs.Answered.{held_kept, under_kept}
use Rattle.envelope_file.proofs.Demand1.{accepted_iff, accepted_read}
use Rattle.envelope_file.proofs.Passing.{held_true, under_false, record_within, record_named_lem, records_bound, start_within, record_passed}
use Rattle.envelope_file.specs.File.{head_name, start_of, is_held, name_in, secret_in, place_in}
use Rattle.envelope_file.specs.Reads.{Located, Placed, Falling}
use Rattle.envelope_file.specs.Rows.{RecordAt, held, under, EnvelopePasses}
use Rattle.envelope_file.specs.Whole.{place_kept, accepted, contents_of, records_of, AcceptedEnvelope}
use Rattle.envelope_file.specs.declared.Contents.{Contents}

-- one record: the place that it gives falls, the first holds a secret under the header's name, and its bytes are there
module _ {file : List ℕ} where
  record_falls : {k : ℕ} → RecordAt file k → is_held file k ≡ false → place_in file k < k
  record_falls (held w n first) e = absurd (false≢true (sym e ∙ held_true w))
  record_falls (under w n later falls) e = falls

  first_record : RecordAt file 0 → (is_held file 0 ≡ true) × (name_in file 0 ≡ head_name file)
  first_record (held w n first) = (held_true w, first refl)
  first_record (under w n later falls) = absurd (omega arith)

  record_room : {k : ℕ} → RecordAt file k → start_of file k + 11 ≤ length file
  record_room (held w n first) = omega (arith, w.whole)
  record_room (under w n later falls) = omega (arith, w.whole)

  secret_room : {k : ℕ} → RecordAt file k → is_held file k ≡ true → start_of file k + 42 ≤ length file
  secret_room (held w n first) e = omega (arith, w.whole)
  secret_room (under w n later falls) e = absurd (false≢true (sym (under_false w) ∙ e))

module _ (file : List ℕ) (ok : AcceptedEnvelope file) where
  passed : EnvelopePasses file (records_of file)
  passed = ((accepted_iff file).0 ok).passes

  pub each_record : (k : ℕ) → k < records_of file → RecordAt file k
  each_record k l = record_passed passed k l

  -- some records, at most 64
  pub some_record : 0 < records_of file
  some_record = ((accepted_iff file).0 ok).some

  pub records_few : records_of file ≤ 64
  records_few = records_bound passed

  -- they fill the file, and the table says where each starts
  pub whole_length : length file ≡ start_of file (records_of file)
  whole_length =
      let r = (accepted_iff file).0 ok in
      omega (arith, start_within r.header.whole r.passes, r.ends)

  pub starts_filled : (contents_of file).starts ≡ filled 64 0 (start_of file) (records_of file)
  unfolding accepted
  starts_filled = ap (λ (c : Contents). c.starts) (accepted_read file (records_of file) ((accepted_iff file).0 ok))

  pub located : Located file (contents_of file).starts (records_of file)
  located = record {
    few = records_few;
    begins = λ k l. rw starts_filled (get_d_filled (start_of file) 64 0 (records_of file) k 0 l);
    within = λ k l. record_within (each_record k l);
  }

  -- the places that were kept
  pub places_filled : (contents_of file).places ≡ filled 64 0 (place_kept file) (records_of file)
  unfolding accepted
  places_filled = ap (λ (c : Contents). c.places) (accepted_read file (records_of file) ((accepted_iff file).0 ok))

  pub place_kept_lem : (k : ℕ) → k < records_of file → get_or (contents_of file).places k 0 ≡ place_kept file k
  place_kept_lem k l = rw places_filled (get_d_filled (place_kept file) 64 0 (records_of file) k 0 l)

  pub placed : Placed file (contents_of file).places (records_of file)
  placed = record {
    own = λ k l e. place_kept_lem k l ∙ held_kept file k e;
    given = λ k l e. place_kept_lem k l ∙ under_kept file k e;
  }

  -- places fall
  pub falling : Falling file (records_of file)
  falling = record { falls = λ k l e. record_falls (each_record k l) e }

  -- names are well formed, 8 bytes long and distinct
  pub names_formed : (k : ℕ) → k < records_of file → NameForm (name_in file k)
  names_formed k l = (record_named_lem (each_record k l)).formed

  pub name_length : (k : ℕ) → k < records_of file → length (name_in file k) ≡ 8
  unfolding name_in
  name_length k l = simp (length-take, length-drop) (omega (arith, record_room (each_record k l)))

  pub names_distinct : (i j : ℕ) → i < records_of file → j < records_of file → name_in file i ≡ name_in file j → i ≡ j
  names_distinct i j li lj same =
      let less : i < j → ⊥ = λ l. (record_named_lem (each_record j lj)).new i l same in
      let more : j < i → ⊥ = λ l. (record_named_lem (each_record i li)).new j l (sym same) in
      omega arith

  -- a secret that is held has 32 bytes
  pub secret_length : (k : ℕ) → k < records_of file → is_held file k ≡ true → length (secret_in file k) ≡ 32
  unfolding secret_in
  secret_length k l e = simp (length-take, length-drop) (omega (arith, secret_room (each_record k l) e))

  -- the first record holds a secret and carries the header's name
  pub first_holds : is_held file 0 ≡ true
  first_holds = (first_record (each_record 0 some_record)).0

  pub first_name : name_in file 0 ≡ head_name file
  first_name = (first_record (each_record 0 some_record)).1
