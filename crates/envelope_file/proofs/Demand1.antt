-- Demand 1 for envelopes: for every byte string exactly one of "read" and "refused under a number from the list" holds, and each number is
-- given when 01's row says so and only then. The words are those of specs/Rows.antt.
use Rattle.std.specs.Prelude.{None}
use Prim.Native.Nat.{ℕ, ◌≤◌, ◌<◌}
use mathlib.Core.List.{List, ◌∷◌, Memᴰ}
use mathlib.Core.Logic.{◌↔◌, ◌⊎◌, inl, inr}
use mathlib.Core.Path.{◌≡◌, refl, sym, ap, ◌∙◌}
use native.Mathlib.Decide.{ℕ_discrete}
use native.Mathlib.Omega.{arith}
use Rattle.envelope_file.proofs.Answered.{none_kept, scan_answered, answered, answered_only}
use Rattle.envelope_file.proofs.Asked.{asked_none, asked_refused, asked_read, no_envelope, not_there, there, Asking, asking}
use Rattle.envelope_file.proofs.Verdict.{row_number, number_of, number_listed, refusal_row}
use Rattle.envelope_file.specs.Derive.{refused_derived, derived_at, derived_of}
use Rattle.envelope_file.specs.Rows.{NotIn, NoHeader, Header, NoMark, CutShort, TooMany, BadName, NameCarried, NoHolder, LatePlace, RefusedAt, row_2, row_3, row_5, row_6, row_7, row_18, row_19, start, NoneRefuses, ReachedInEnvelope, Answered, at_start, at_record, read, envelope_numbers}
use Rattle.envelope_file.specs.Whole.{refused, nothing_read, accepted, scan_from, contents_of, envelope_refusal, records_of, AcceptedEnvelope}
use Rattle.envelope_file.specs.declared.Contents.{Contents}
use Rattle.envelope_file.specs.declared.Derived.{Derived}

module _ (file : List ℕ) where
  -- Each file has one answer, and it is what the table says in words.
  pub one_answer : (c : Contents) → (contents_of file ≡ c) ↔ Answered file c
  one_answer c = (λ e. rw e at (answered file), answered_only file)

  -- An envelope is read exactly when no row refuses it, and its records are those of the words.
  pub accepted_iff : AcceptedEnvelope file ↔ NoneRefuses file (records_of file)
  unfolding accepted
  accepted_iff = (λ e. go (answered file) e, λ r. number_of file (read r))
    where
      go : {c : Contents} → Answered file c → c.refusal ≡ 0 → NoneRefuses file c.records
      go (at_start h) n = absurd (omega arith)
      go (at_record header before r) n = absurd (omega (arith, (row_number r).0))
      go (read r) n = r

  pub accepted_read : (records : ℕ) → NoneRefuses file records → contents_of file ≡ accepted file records
  accepted_read records r = answered_only file (read r)

  -- "under 12 bytes, mark not `EN`, or account 0"
  pub refusal_17 : (envelope_refusal file ≡ 17) ↔ NoHeader file
  unfolding accepted
  refusal_17 = (λ e. go (answered file) e, λ h. number_of file (at_start h))
    where
      go : {c : Contents} → Answered file c → c.refusal ≡ 17 → NoHeader file
      go (at_start h) n = h
      go (at_record header before r) n = absurd ((row_number r).1 n)
      go (read r) n = absurd (omega arith)

  -- "a single byte left .., or a mark not belonging to this file (`EN` belongs at an envelope's start alone)"
  pub refusal_2 : (envelope_refusal file ≡ 2) ↔ ReachedInEnvelope file NoMark
  refusal_2 = refusal_row file 2 NoMark (omega arith, λ e. omega arith) row (λ k r. row_2 r)
    where
      row : (k : ℕ) → RefusedAt file k 2 → NoMark file k
      row k (row_2 r) = r

  -- "record cut short"
  pub refusal_3 : (envelope_refusal file ≡ 3) ↔ ReachedInEnvelope file CutShort
  refusal_3 = refusal_row file 3 CutShort (omega arith, λ e. omega arith) row (λ k r. row_3 r)
    where
      row : (k : ℕ) → RefusedAt file k 3 → CutShort file k
      row k (row_3 r) = r

  -- "65th envelope record"
  pub refusal_5 : (envelope_refusal file ≡ 5) ↔ ReachedInEnvelope file TooMany
  refusal_5 = refusal_row file 5 TooMany (omega arith, λ e. omega arith) row (λ k r. row_5 r)
    where
      row : (k : ℕ) → RefusedAt file k 5 → TooMany file k
      row k (row_5 r) = r

  -- "name badly formed"
  pub refusal_6 : (envelope_refusal file ≡ 6) ↔ ReachedInEnvelope file BadName
  refusal_6 = refusal_row file 6 BadName (omega arith, λ e. omega arith) row (λ k r. row_6 r)
    where
      row : (k : ℕ) → RefusedAt file k 6 → BadName file k
      row k (row_6 r) = r

  -- "name carried by an earlier record"
  pub refusal_7 : (envelope_refusal file ≡ 7) ↔ ReachedInEnvelope file NameCarried
  refusal_7 = refusal_row file 7 NameCarried (omega arith, λ e. omega arith) row (λ k r. row_7 r)
    where
      row : (k : ℕ) → RefusedAt file k 7 → NameCarried file k
      row k (row_7 r) = r

  -- at the first record: "none there, not `KS`, or name unlike the header's"
  pub refusal_18 : (envelope_refusal file ≡ 18) ↔ ReachedInEnvelope file NoHolder
  refusal_18 = refusal_row file 18 NoHolder (omega arith, λ e. omega arith) row (λ k r. row_18 r)
    where
      row : (k : ℕ) → RefusedAt file k 18 → NoHolder file k
      row k (row_18 r) = r

  -- `KD`: "place not less than its own"
  pub refusal_19 : (envelope_refusal file ≡ 19) ↔ ReachedInEnvelope file LatePlace
  refusal_19 = refusal_row file 19 LatePlace (omega arith, λ e. omega arith) row (λ k r. row_19 r)
    where
      row : (k : ℕ) → RefusedAt file k 19 → LatePlace file k
      row k (row_19 r) = r

  -- Every file is read or refused under a number from the list, never both.
  pub read_or_refused : AcceptedEnvelope file ⊎ Memᴰ (envelope_refusal file) envelope_numbers
  read_or_refused = go (ℕ_discrete (envelope_refusal file) 0)
    where
      go : Dec (envelope_refusal file ≡ 0) → AcceptedEnvelope file ⊎ Memᴰ (envelope_refusal file) envelope_numbers
      go (yes e) = inl e
      go (no d) = inr (number_listed file (answered file) (omega arith))

  -- The 65 records that `contents_of` may read are enough: to allow more changes nothing.
  pub records_enough : (n : ℕ) → 65 ≤ n → Header file → scan_from n file nothing_read ≡ contents_of file
  records_enough n h header =
      ap (scan_from n file) (none_kept file) ∙ sym (answered_only file (scan_answered file header n 0 start (omega arith)))

  -- "With a refusal every number in the answer is 0"
  pub refused_zeros : 0 < envelope_refusal file → contents_of file ≡ refused (envelope_refusal file)
  unfolding accepted
  refused_zeros h = go (answered file) h
    where
      go : {c : Contents} → Answered file c → 0 < c.refusal → c ≡ refused c.refusal
      go (at_start h) some = refl
      go (at_record header before r) some = refl
      go (read r) some = absurd (omega arith)

-- Derive, "after the whole envelope": 20 when the name is not in it.
module _ (file name : List ℕ) where
  -- a refusal of the envelope comes before 20
  pub derived_refused : 0 < envelope_refusal file → derived_of file name ≡ refused_derived (envelope_refusal file)
  derived_refused = asked_refused file name

  -- "name asked for is not in it, or not 8 bytes"
  pub derived_20 : AcceptedEnvelope file → ((derived_of file name).refusal ≡ 20) ↔ NotIn file (records_of file) name
  unfolding derived_at
  derived_20 ok = (λ e. go (asking file name) e, back)
    where
      go : {d : Derived} → Asking file name d → d.refusal ≡ 20 → NotIn file (records_of file) name
      go (no_envelope h) e = absurd (omega arith)
      go (not_there ok n) e = n
      go (there ok f) e = absurd (omega arith)

      back : NotIn file (records_of file) name → (derived_of file name).refusal ≡ 20
      back n = ap (λ (d : Derived). d.refusal) (asked_read file name ok None ((asked_none file (records_of file) name).1 n))

  -- the refusal is 0, one of the envelope's or 20
  pub derived_numbers : Memᴰ (derived_of file name).refusal (0 ∷ 20 ∷ envelope_numbers)
  unfolding derived_at
  derived_numbers = go (asking file name)
    where
      go : {d : Derived} → Asking file name d → Memᴰ d.refusal (0 ∷ 20 ∷ envelope_numbers)
      go (no_envelope h) = Memᴰ.tail (Memᴰ.tail (number_listed file (answered file) h))
      go (not_there ok n) = Memᴰ.tail (Memᴰ.head refl)
      go (there ok f) = Memᴰ.head refl

  -- "With a refusal every number in the answer is 0, .. a key .. is 32 zero bytes"
  pub derived_zeros : 0 < (derived_of file name).refusal → derived_of file name ≡ refused_derived (derived_of file name).refusal
  unfolding derived_at
  derived_zeros h = go (asking file name) h
    where
      go : {d : Derived} → Asking file name d → 0 < d.refusal → d ≡ refused_derived d.refusal
      go (no_envelope h) some = refl
      go (not_there ok n) some = refl
      go (there ok f) some = absurd (omega arith)
