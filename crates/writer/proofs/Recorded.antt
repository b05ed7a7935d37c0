-- Laws of one label's record from the tables, and of the records of the labels below a number with one label more.
use Prim.Native.Nat.{ℕ, zero, suc, ◌+◌, ◌≤◌, ◌<◌}
use mathlib.Core.Bool.{Bool, true, false, cond, false≢true}
use mathlib.Core.List.{List, [], ◌++◌}
use mathlib.Core.Logic.{⊎_elim, ◌≢◌}
use mathlib.Core.Path.{◌≡◌, refl, sym, ap, ◌∙◌}
use native.Mathlib.Nat.{eq-or-lt_of_le}
use native.Mathlib.Numerals.{add-one}
use native.Mathlib.Omega.{arith}
use borrow.Author.Tests.{eq-eqb}
use lib.ListN.{length, length-append}
use Rattle.lists.specs.Tables.{filled}
use Rattle.lists.proofs.Tables.{get_d_filled}
use Rattle.policy_file.specs.File.{name_of}
use Rattle.trees.specs.Trees.{top}
use Rattle.trees.specs.Weights.{in_smallest}
use Rattle.weights.specs.Tables.{entries}
use Rattle.weights.proofs.Reading.{entries_filled}
use Rattle.envelopes.specs.Secrets.{secret_of}
use Rattle.envelopes.specs.Envelope.{held_record, under_record, header, place_below, record_of, records_below, envelope_of}
use Rattle.envelopes.proofs.Written.{records_here, records_skip}
use Rattle.record_writer.specs.Either.{label_record}
use Rattle.secrets.specs.Asks.{ParentsFall, is_marked, secret_at, Made}

-- a label at or below l that is not in the smallest set is not the top
pub under_other : (le : ℕ → ℕ → Bool) (parent : ℕ → ℕ) (l m : ℕ) (held : Bool)
    → le m l ≡ true → held ≡ in_smallest le parent l m → held ≡ false → m ≢ top
unfolding in_smallest
under_other le parent l m held y e f q = false≢true (sym f ∙ e ∙ rw (y, eq-eqb m top q))

module _ (name : ℕ → List ℕ) (le : ℕ → ℕ → Bool) (parent : ℕ → ℕ) (root : List ℕ) (l : ℕ) where
  -- the record of label m, by whether it is in the smallest set
  pub record_made : (m : ℕ) (held : Bool) (secret : List ℕ) (place : ℕ) → held ≡ in_smallest le parent l m
      → (held ≡ true → secret ≡ secret_of name parent root m) → (held ≡ false → place ≡ place_below le l (parent m))
      → label_record held (name m) secret place ≡ record_of name le parent root l m
  unfolding record_of
  record_made m true secret place e s p = ap (held_record (name m)) (s refl) ∙ rw (sym e)
  record_made m false secret place e s p = ap (under_record (name m)) (p refl) ∙ rw (sym e)

  -- the records, label m being at or below l or not
  pub records_more : (m : ℕ) → le m l ≡ true
      → records_below name le parent root l m ++ record_of name le parent root l m ≡ records_below name le parent root l (m + 1)
  records_more m y = rw add-one (sym (records_here name le parent root l m y))

  pub records_same : (m : ℕ) → le m l ≡ false → records_below name le parent root l m ≡ records_below name le parent root l (m + 1)
  records_same m n = rw add-one (sym (records_skip name le parent root l m n))

  records_grow : (m n : ℕ) → m ≤ n → length (records_below name le parent root l m) ≤ length (records_below name le parent root l n)
  unfolding records_below
  records_grow m zero h = let e : m ≡ 0 = omega arith in rw e (omega arith)
  records_grow m (suc n) h =
      let g = length-append (records_below name le parent root l n) (cond (le n l) (record_of name le parent root l n) []) in
      ⊎_elim (λ (e : m ≡ suc n). rw e (omega arith)) (λ (k : m < suc n). omega (arith, records_grow m n (omega arith))) (eq-or-lt_of_le h)

  -- each record is one of the records
  pub records_fit : (m n : ℕ) → m < n → le m l ≡ true
      → length (records_below name le parent root l m) + length (record_of name le parent root l m) ≤ length (records_below name le parent root l n)
  records_fit m n h y =
      let g = length-append (records_below name le parent root l m) (record_of name le parent root l m) in
      omega (arith, g, ap length (records_more m y), records_grow (m + 1) n (omega arith))

  -- the whole envelope: its header, and the records of all n labels
  pub envelope_parts : (n account : ℕ) (own : List ℕ) → own ≡ name l → header account own ++ records_below name le parent root l n ≡ envelope_of name le parent root l n account
  unfolding envelope_of
  envelope_parts n account own e = ap (λ (s : List ℕ). header account s ++ records_below name le parent root l n) e

-- the same record from the tables of held labels, of secrets and of places
module _ (le : ℕ → ℕ → Bool) (l : ℕ) {file parents root : List ℕ} {labels : ℕ} {held : List Bool} {secrets : List (List ℕ)} {places : List ℕ}
    (h : held ≡ filled 64 false (in_smallest le (entries parents) l) labels) (d : Made file parents root held secrets labels)
    (p : places ≡ filled 64 0 (place_below le l) labels) (falls : ParentsFall parents labels) where
  pub table_record : (m : ℕ) → m < labels → le m l ≡ true
      → label_record (is_marked held m) (name_of file m) (secret_at secrets m) (entries places (entries parents m))
      ≡ record_of (name_of file) le (entries parents) root l m
  table_record m lt y = record_made (name_of file) le (entries parents) root l m (is_marked held m) (secret_at secrets m) (entries places (entries parents m)) is (d.secret m lt) place
    where
      is : is_marked held m ≡ in_smallest le (entries parents) l m
      is = ap (λ (t : List Bool). is_marked t m) h ∙ get_d_filled (in_smallest le (entries parents) l) 64 false labels m false lt

      place : is_marked held m ≡ false → entries places (entries parents m) ≡ place_below le l (entries parents m)
      place f =
          let up : entries parents m < m = falls m lt (under_other le (entries parents) l m (is_marked held m) y is f) in
          ap (λ (t : List ℕ). entries t (entries parents m)) p ∙ entries_filled (place_below le l) labels (entries parents m) (omega arith)
