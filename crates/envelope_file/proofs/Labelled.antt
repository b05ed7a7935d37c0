-- What `read_labels` answers: refused as the envelope is, else the names of its records.
use Prim.Native.Nat.{ℕ, ◌*◌, ◌≤◌, ◌<◌}
use mathlib.Core.Bool.{Bool, cond}
use mathlib.Core.List.{List}
use mathlib.Core.Path.{◌≡◌, sym, ap, ap₂, ◌∙◌}
use native.Mathlib.Decide.{ℕ_discrete}
use native.Mathlib.Omega.{arith}
use borrow.Author.Tests.{eq-eqb, ne_eqb}
use lib.ListN.{length, get_or, replicate}
use Rattle.format.specs.Bytes.{bytes_at}
use Rattle.lists.proofs.Tables.{get_d_past}
use Rattle.envelope_file.proofs.Demand1.{accepted_iff}
use Rattle.envelope_file.proofs.Lawful.{records_few, name_length}
use Rattle.envelope_file.proofs.Names.{name_bytes}
use Rattle.envelope_file.specs.File.{account_in, name_in}
use Rattle.envelope_file.specs.Labels.{name_byte, names_in, refused_labels, labels_in, envelope_labels}
use Rattle.envelope_file.specs.Whole.{contents_of, envelope_refusal, records_of, AcceptedEnvelope}
use Rattle.envelope_file.specs.declared.Contents.{Contents}
use Rattle.envelope_file.specs.declared.Labels.{Labels}

module _ (file : List ℕ) where
  pub labels_refused : 0 < envelope_refusal file → envelope_labels file ≡ refused_labels (envelope_refusal file)
  unfolding envelope_labels
  labels_refused h =
      ap (λ (b : Bool). cond b (labels_in file) (refused_labels (envelope_refusal file))) (ne_eqb (envelope_refusal file) 0 (λ e. omega arith))

  pub labels_read : AcceptedEnvelope file → envelope_labels file ≡ labels_in file
  unfolding envelope_labels
  labels_read ok = ap (λ (b : Bool). cond b (labels_in file) (refused_labels (envelope_refusal file))) (eq-eqb (envelope_refusal file) 0 ok)

  -- Demand 1: the labels are refused as the envelope is, under the same number
  pub labels_refusal : (envelope_labels file).refusal ≡ envelope_refusal file
  labels_refusal = go (ℕ_discrete (envelope_refusal file) 0)
    where
      go : Dec (envelope_refusal file ≡ 0) → (envelope_labels file).refusal ≡ envelope_refusal file
      go (yes ok) = ap (λ (r : Labels). r.refusal) (labels_read ok) ∙ sym ok
      go (no d) = ap (λ (r : Labels). r.refusal) (labels_refused (omega arith))

  -- "With a refusal every number in the answer is 0"
  pub labels_zeros : 0 < (envelope_labels file).refusal → envelope_labels file ≡ refused_labels (envelope_labels file).refusal
  labels_zeros h = labels_refused (omega (arith, labels_refusal)) ∙ ap refused_labels (sym labels_refusal)

  -- The eight bytes from 8 * k on are the name of record k.
  pub label_names : AcceptedEnvelope file → (k : ℕ) → k < records_of file → bytes_at (envelope_labels file).names (8 * k) 8 ≡ name_in file k
  label_names ok k l =
      ap (λ (r : Labels). bytes_at r.names (8 * k) 8) (labels_read ok)
      ∙ name_bytes file (records_of file) k (records_few file ok) l (name_length file ok k l)

  -- Behind the names there are zeros.
  pub names_past : AcceptedEnvelope file → (i : ℕ) → 8 * records_of file ≤ i → get_or (envelope_labels file).names i 0 ≡ 0
  names_past ok i l =
      ap (λ (r : Labels). get_or r.names i 0) (labels_read ok) ∙ get_d_past (name_byte file) 512 0 (8 * records_of file) i l

-- an envelope that has been read, or refused
module _ (file : List ℕ) (read : Contents) (same : read ≡ contents_of file) where
  number : read.refusal ≡ envelope_refusal file
  number = ap (λ (c : Contents). c.refusal) same

  pub refused_answer : 0 < read.refusal → envelope_labels file ≡ refused_labels read.refusal
  refused_answer some = labels_refused file (omega (arith, number)) ∙ ap refused_labels (sym number)

  pub header_whole : read.refusal ≡ 0 → 12 ≤ length file
  header_whole none = ((accepted_iff file).0 (sym number ∙ none)).header.whole

  pub read_answer : read.refusal ≡ 0 → {account : ℕ} {names : List ℕ} → account ≡ account_in file → names ≡ names_in file read.records
      → record { refusal = 0; zeros = replicate 5 0; account = account; labels = read.records; names = names } ≡ envelope_labels file
  read_answer none a n =
      ap₂ (λ (x : ℕ) (s : List ℕ). record { refusal = 0; zeros = replicate 5 0; account = x; labels = read.records; names = s }) a n
      ∙ ap (λ (c : Contents). record { refusal = 0; zeros = replicate 5 0; account = account_in file; labels = c.records; names = names_in file c.records }) same
      ∙ sym (labels_read file (sym number ∙ none))
