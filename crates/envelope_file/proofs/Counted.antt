-- The count of records read, in the words of the table: which record of an envelope is refused.
use Prim.Native.Nat.{ℕ, suc, ◌+◌, ◌-◌}
use mathlib.Core.List.{List}
use mathlib.Core.Path.{◌≡◌, sym, ap, ◌∙◌}
use native.Mathlib.Omega.{arith}
use Rattle.envelope_file.proofs.Answered.{no_header, header_passes}
use Rattle.envelope_file.proofs.Demand1.{accepted_iff}
use Rattle.envelope_file.proofs.Meaning.{Means, is_end, is_refused, is_held_lem, is_under, kind_of}
use Rattle.envelope_file.proofs.Passing.{records_bound}
use Rattle.envelope_file.proofs.Reading.{none_counted, all_counted, count_kind}
use Rattle.envelope_file.specs.Rows.{NoHeader, Header, RefusedAt, RecordAt, held, under, EnvelopePasses, start, next}
use Rattle.envelope_file.specs.Whole.{on_count, count_from, envelope_records_read, records_of, AcceptedEnvelope}
use Rattle.envelope_file.specs.declared.Kind.{Kind}

module _ (file : List ℕ) where
  -- a record that passes is counted
  one_more_lem : (n k : ℕ) → RecordAt file k → count_from (suc n) file k ≡ count_from n file (k + 1)
  one_more_lem n k (held w named first) = count_kind n file k (kind_of file k (is_held_lem w named first))
  one_more_lem n k (under w named later falls) = count_kind n file k (kind_of file k (is_under w named later falls))

  -- the count comes to each record before which all pass
  count_comes : {k : ℕ} → EnvelopePasses file k → (n : ℕ) → n + k ≡ 65 → count_from 65 file 0 ≡ count_from n file k
  count_comes start n e = let same : n ≡ 65 = omega arith in ap (λ (f : ℕ). count_from f file 0) (sym same)
  count_comes (next {k} before r) n e = count_comes before (suc n) (omega arith) ∙ one_more_lem n k r

  count_at : {k : ℕ} → Header file → EnvelopePasses file k → {kind : Kind} → Means file k kind → envelope_records_read file ≡ on_count (count_from (64 - k) file) k kind
  count_at {k} h before r =
      all_counted file (header_passes file h)
      ∙ count_comes before (suc (64 - k)) (omega (arith, records_bound before))
      ∙ count_kind (64 - k) file k (kind_of file k r)

  -- no record after a header that is refused
  pub read_none : NoHeader file → envelope_records_read file ≡ 0
  read_none h = none_counted file (λ e. omega (arith, no_header file h))

  -- an envelope that is refused at record k: the k before it
  pub read_before : {k n : ℕ} → Header file → EnvelopePasses file k → RefusedAt file k n → envelope_records_read file ≡ k
  read_before h before r = count_at h before (is_refused r)

  -- an envelope that is read: all its records
  pub read_all : AcceptedEnvelope file → envelope_records_read file ≡ records_of file
  read_all ok = let r = (accepted_iff file).0 ok in count_at r.header r.passes (is_end r.ends r.some)
