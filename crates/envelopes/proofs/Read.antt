-- The desk reads an envelope as it is written: no row of 01's table refuses it.
use Prim.Native.Nat.{ℕ, zero, suc, ◌+◌, ◌≤◌, ◌<◌}
use mathlib.Core.Bool.{Bool, true, false, cond}
use mathlib.Core.List.{List}
use mathlib.Core.Logic.{◌⊎◌, inl, inr, ◌≢◌}
use mathlib.Core.Path.{◌≡◌, sym, ap, ◌∙◌, subst}
use native.Mathlib.Nat.{le_refl}
use native.Mathlib.Omega.{arith}
use lib.ListN.{length}
use Rattle.envelope_file.proofs.Demand1.{accepted_read}
use Rattle.envelope_file.specs.File.{record_size, start_of, name_in, place_in}
use Rattle.envelope_file.specs.Rows.{Header, mark_of, Named, RecordAt, held, under, EnvelopePasses, start, next, NoneRefuses}
use Rattle.envelope_file.specs.Whole.{accepted, contents_of, records_of, AcceptedEnvelope}
use Rattle.envelope_file.specs.declared.Contents.{Contents}
use Rattle.format.specs.Form.{NameForm}
use Rattle.format.specs.Marks.{KS, KD}
use Rattle.trees.proofs.Lists.{answers}
use Rattle.trees.specs.Weights.{in_smallest}
use Rattle.envelopes.specs.Envelope.{place_below, envelope_of}
use Rattle.envelopes.specs.Labels.{Labels, Issue}
use Rattle.envelopes.proofs.Places.{LabelAt, place_start, place_here, place_skip, place_before, place_upto, place_label}
use Rattle.envelopes.proofs.Records.{reads_mark, reads_whole, reads_name, reads_place}
use Rattle.envelopes.proofs.Under.{itself, first_place, not_smallest}
use Rattle.envelopes.proofs.Written.{mark_in, account_in_lem, head_name_lem, file_length, ends}

module _ {n : ℕ} {R : ℕ → ℕ → Type 0} {le : ℕ → ℕ → Bool} {name : ℕ → List ℕ} {parent : ℕ → ℕ} (L : Labels n R le name parent)
    {l account : ℕ} {root : List ℕ} (I : Issue n l account root) where
  abbrev file : List ℕ
  file = envelope_of name le parent root l n account

  abbrev place : ℕ → ℕ
  place = place_below le l

  head_passes : Header file
  head_passes = record { whole = omega (arith, file_length L I); mark = mark_in L I; account = omega (arith, account_in_lem L I, I.some) }

  module _ (m : ℕ) (hm : m < n) (below : le m l ≡ true) where
    -- rows 5, 6 and 7
    named : Named file (place m)
    named = record {
      fits = omega (arith, place_upto le l m, L.few);
      formed = subst NameForm (sym (reads_name L I m hm below)) (L.formed m hm);
      new = λ i h. new i (place_label le l m i h);
    }
      where
        new : (i : ℕ) → LabelAt le l m i → name_in file i ≢ name_in file (place m)
        new i a e =
            let j : ℕ = a.label in
            let hj : j < n = omega arith in
            let q : name j ≡ name m = sym (reads_name L I j hj a.below) ∙ ap (name_in file) a.place ∙ e ∙ reads_name L I m hm below in
            omega (arith, L.distinct j m hj hm q, a.early)

    record_passes : RecordAt file (place m)
    record_passes = go (answers (in_smallest le parent l m))
      where
        whole : (b : Bool) → in_smallest le parent l m ≡ b → start_of file (place m) + record_size b ≤ length file
        whole b e = rw e at (reads_whole L I m hm below)

        mark : (b : Bool) → in_smallest le parent l m ≡ b → mark_of file (place m) ≡ cond b KS KD
        mark b e = reads_mark L I m hm below ∙ ap (λ (t : Bool). cond t KS KD) e

        go : (in_smallest le parent l m ≡ true) ⊎ (in_smallest le parent l m ≡ false) → RecordAt file (place m)
        go (inl e) =
            held (record { mark = mark true e; whole = omega (arith, whole true e) }) named
            (λ z. reads_name L I m hm below ∙ ap name (first_place L I.label m hm below z) ∙ sym (head_name_lem L I))
        go (inr e) =
            let u = not_smallest L I.label m hm below e in
            let falls : place_in file (place m) < place m = omega (arith, reads_place L I m hm below e, place_before le l (parent m) m u.falls u.below) in
            under (record { mark = mark false e; whole = omega (arith, whole false e) }) named (omega arith) falls

  pass : (m : ℕ) → m ≤ n → EnvelopePasses file (place m)
  pass zero h = rw (place_start le l) start
  pass (suc m) h = go (pass m (omega arith)) (answers (le m l))
    where
      go : EnvelopePasses file (place m) → (le m l ≡ true) ⊎ (le m l ≡ false) → EnvelopePasses file (place (suc m))
      go ih (inl e) = let k : place (suc m) ≡ place m + 1 = omega (arith, place_here le l m e) in rw k (next ih (record_passes m h e))
      go ih (inr e) = rw (place_skip le l m e) ih

  -- no row refuses the envelope, which has a record for each label at or below l
  pub none_refuses : NoneRefuses (envelope_of name le parent root l n account) (place_below le l n)
  none_refuses = record {
    header = head_passes;
    passes = pass n (le_refl n);
    some = omega (arith, place_before le l l n I.label (itself L I.label));
    ends = omega (arith, ends L I);
  }

  -- so it is read, whole, as these records
  pub read_whole : contents_of (envelope_of name le parent root l n account) ≡ accepted (envelope_of name le parent root l n account) (place_below le l n)
  read_whole = accepted_read file (place n) none_refuses

  pub is_accepted : AcceptedEnvelope (envelope_of name le parent root l n account)
  unfolding accepted
  is_accepted = ap (λ (c : Contents). c.refusal) read_whole

  pub how_many : records_of (envelope_of name le parent root l n account) ≡ place_below le l n
  unfolding accepted
  how_many = ap (λ (c : Contents). c.records) read_whole
