-- Demand 1 for key envelopes and the desk, shown for every list of bytes.
use Prim.Native.Nat.{ℕ}
use mathlib.Core.List.{List}
use Rattle.envelope_file.proofs.Counted.{read_before, read_all, read_none}
use Rattle.envelope_file.proofs.Demand1.{refusal_17, refusal_2, refusal_3, refusal_5, refusal_6, refusal_7, refusal_18, refusal_19, accepted_iff, read_or_refused, derived_refused, derived_20, derived_zeros}
use Rattle.envelope_file.proofs.Labelled.{labels_refusal, labels_zeros, label_names}
use Rattle.envelope_file.proofs.Paths.{applications_path}
use Rattle.claims.specs.Demand1Desk.{Demand1OfEnvelope}

pub demand1_of_envelope : (file : List ℕ) → Demand1OfEnvelope file
demand1_of_envelope file = record {
  answered = read_or_refused file;
  no_header = refusal_17 file;
  no_mark = refusal_2 file;
  cut_short = refusal_3 file;
  too_many = refusal_5 file;
  bad_name = refusal_6 file;
  name_carried = refusal_7 file;
  no_holder = refusal_18 file;
  late_place = refusal_19 file;
  accepted = accepted_iff file;
  read_before = λ k n header passes row. read_before file header passes row;
  read_all = read_all file;
  read_none = read_none file;
  envelope_first = λ name. derived_refused file name;
  not_in = λ name. derived_20 file name;
  zeros = λ name. derived_zeros file name;
  derived = λ name. applications_path file name;
  labels_refusal = labels_refusal file;
  labels_zeros = labels_zeros file;
  labels_named = label_names file;
}
