-- An envelope as it is written: its header, and each record after those of the labels before. The desk finds the record of label m, if m is
-- at or below l, as its record number `place_below le l m`.
use Prim.Native.Nat.{ℕ, zero, suc, ◌+◌, ◌/◌, ◌%◌, ◌≤◌, ◌<◌}
use mathlib.Core.Bool.{Bool, true, false, cond}
use mathlib.Core.List.{List, [], ◌++◌, append_assoc, append-nil}
use mathlib.Core.Logic.{◌⊎◌, inl, inr}
use mathlib.Core.Path.{◌≡◌, refl, sym, ap, ◌∙◌}
use native.Mathlib.Nat.{eq-or-lt_of_le, le_of_suc-le-suc, le_refl}
use native.Mathlib.Omega.{arith}
use lib.ListN.{length, get_or, length-append}
use lib.Seq.{take_at}
use Rattle.envelope_file.specs.File.{account_in, head_name, held_at, record_size, start_of}
use Rattle.format.specs.Bytes.{bytes_at, same_bytes}
use Rattle.format.specs.Marks.{EN, KS, KD}
use Rattle.trees.proofs.Lists.{answers}
use Rattle.trees.specs.Weights.{in_smallest}
use Rattle.envelopes.specs.Envelope.{header, place_below, record_of, records_below, envelope_of}
use Rattle.envelopes.specs.Labels.{Labels, Issue}
use Rattle.envelopes.proofs.OneRecord.{record_mark, record_size_lem}
use Rattle.envelopes.proofs.Places.{place_here, place_skip}
use Rattle.envelopes.proofs.Secrets.{secret_length}
use Rattle.envelopes.proofs.Stands.{Stands, stands_bytes}

-- ---- the records of the labels before m

module _ (name : ℕ → List ℕ) (le : ℕ → ℕ → Bool) (parent : ℕ → ℕ) (root : List ℕ) (l : ℕ) where
  abbrev before : ℕ → List ℕ
  before = records_below name le parent root l

  abbrev here : ℕ → List ℕ
  here = record_of name le parent root l

  -- no record for a label that is not at or below l, "one record for each label" that is
  pub records_skip : (m : ℕ) → le m l ≡ false → before (suc m) ≡ before m
  unfolding records_below
  records_skip m e = ap (λ (t : Bool). before m ++ cond t (here m) []) e ∙ append-nil (before m)

  pub records_here : (m : ℕ) → le m l ≡ true → before (suc m) ≡ before m ++ here m
  unfolding records_below
  records_here m e = ap (λ (t : Bool). before m ++ cond t (here m) []) e

  -- they open those before a later label
  records_open : (m n : ℕ) → m ≤ n → (rest : List ℕ) × (before n ≡ before m ++ rest)
  records_open m zero h = let e : m ≡ 0 = omega arith in ([], rw e (sym (append-nil (before 0))))
  records_open m (suc n) h = go (eq-or-lt_of_le h) (answers (le n l)) (records_open m n)
    where
      go : (m ≡ suc n) ⊎ (m < suc n) → (le n l ≡ true) ⊎ (le n l ≡ false) → (m ≤ n → (rest : List ℕ) × (before n ≡ before m ++ rest))
          → (rest : List ℕ) × (before (suc n) ≡ before m ++ rest)
      go (inl e) t ih = ([], rw e (sym (append-nil (before (suc n)))))
      go (inr k) (inl e) ih =
          let r = ih (le_of_suc-le-suc k) in
          (r.0 ++ here n, records_here n e ∙ ap (λ (s : List ℕ). s ++ here n) r.1 ∙ append_assoc (before m) r.0 (here n))
      go (inr k) (inr e) ih = let r = ih (le_of_suc-le-suc k) in (r.0, records_skip n e ∙ r.1)

module _ {n : ℕ} {R : ℕ → ℕ → Type 0} {le : ℕ → ℕ → Bool} {name : ℕ → List ℕ} {parent : ℕ → ℕ} (L : Labels n R le name parent)
    {l account : ℕ} {root : List ℕ} (I : Issue n l account root) where
  abbrev file : List ℕ
  file = envelope_of name le parent root l n account

  abbrev records : ℕ → List ℕ
  records = records_below name le parent root l

  abbrev one : ℕ → List ℕ
  one = record_of name le parent root l

  -- ---- the header: "`EN`, account number (2 bytes), the account's label name"

  pub account_in_lem : account_in file ≡ account
  unfolding envelope_of
  account_in_lem =
      let high : get_or file 2 0 ≡ account / 256 % 256 = refl in
      let low : get_or file 3 0 ≡ account % 256 = refl in
      omega (arith, I.fits)

  pub head_name_lem : head_name file ≡ name l
  unfolding envelope_of head_name
  head_name_lem = take_at (name l) (records n) 8 (L.eight l I.label)

  pub mark_in : bytes_at file 0 2 ≡ EN
  unfolding envelope_of
  mark_in = refl

  abbrev head : List ℕ
  head = header account (name l)

  head_length : length head ≡ 12
  head_length = omega (arith, L.eight l I.label)

  -- ---- the records

  pub stands_record : (m : ℕ) → m < n → le m l ≡ true → Stands file (12 + length (records m)) (one m)
  unfolding envelope_of
  stands_record m h e =
      let r = records_open name le parent root l (suc m) n h in
      let behind : records n ≡ records m ++ (one m ++ r.0) =
      r.1 ∙ ap (λ (s : List ℕ). s ++ r.0) (records_here name le parent root l m e) ∙ append_assoc (records m) (one m) r.0 in
      record {
        front = head ++ records m;
        back = r.0;
        whole = ap (λ (s : List ℕ). head ++ s) behind ∙ sym (append_assoc head (records m) (one m ++ r.0));
        before = omega (arith, length-append head (records m), head_length);
      }

  pub sized : (m : ℕ) → m < n → length (one m) ≡ record_size (in_smallest le parent l m)
  sized m h = record_size_lem name le parent root l m (L.eight m h) (secret_length name parent root I.secret m)

  -- the marks tell which records hold secrets
  pub marked : (m : ℕ) → m < n → le m l ≡ true → bytes_at file (12 + length (records m)) 2 ≡ cond (in_smallest le parent l m) KS KD
  marked m h e =
      let at : ℕ = 12 + length (records m) in
      let zeroth : at ≡ at + 0 = omega arith in
      ap (λ (k : ℕ). bytes_at file k 2) zeroth
      ∙ stands_bytes (stands_record m h e) 0 2 (omega (arith, sized m h, some (in_smallest le parent l m)))
      ∙ record_mark name le parent root l m (L.eight m h)
    where
      some : (held : Bool) → 2 ≤ record_size held
      some true = omega arith
      some false = omega arith

  pub marked_held : (m : ℕ) → m < n → le m l ≡ true → held_at file (12 + length (records m)) ≡ in_smallest le parent l m
  unfolding same_bytes
  marked_held m h e = ap (λ (s : List ℕ). same_bytes s KS) (marked m h e) ∙ go (in_smallest le parent l m)
    where
      go : (held : Bool) → same_bytes (cond held KS KD) KS ≡ held
      go true = refl
      go false = refl

  -- where the desk finds them: the record at label m's place starts after those of the labels before m
  pub starts : (m : ℕ) → m ≤ n → start_of file (place_below le l m) ≡ 12 + length (records m)
  unfolding start_of place_below records_below
  starts zero h = refl
  starts (suc m) h = go (starts m (omega arith)) (answers (le m l))
    where
      go : start_of file (place_below le l m) ≡ 12 + length (records m) → (le m l ≡ true) ⊎ (le m l ≡ false)
          → start_of file (place_below le l (suc m)) ≡ 12 + length (records (suc m))
      go ih (inl e) =
          let at : ℕ = 12 + length (records m) in
          ap (start_of file) (place_here le l m e)
          ∙ ap (λ (k : ℕ). k + record_size (held_at file k)) ih
          ∙ ap (λ (held : Bool). at + record_size held) (marked_held m h e)
          ∙ omega (arith, sized m h, length-append (records m) (one m), ap length (records_here name le parent root l m e))
      go ih (inr e) =
          ap (start_of file) (place_skip le l m e)
          ∙ ih
          ∙ ap (λ (s : List ℕ). 12 + length s) (sym (records_skip name le parent root l m e))

  -- the file ends after the last record
  pub file_length : length file ≡ 12 + length (records n)
  unfolding envelope_of
  file_length = omega (arith, length-append head (records n), head_length)

  pub ends : start_of file (place_below le l n) ≡ length file
  ends = starts n (le_refl n) ∙ sym file_length
