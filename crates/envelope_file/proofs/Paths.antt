-- The answer of `derive` by the path to a record: from the held secret down, step by step.
use Rattle.std.specs.Prelude.{None, Option, Some}
use Prim.Native.Nat.{ℕ, zero, suc, ◌+◌, ◌≤◌, ◌<◌}
use mathlib.Core.Bool.{Bool, true, false, false≢true}
use mathlib.Core.List.{List}
use mathlib.Core.Path.{◌≡◌, refl, sym, ap, ap₂, ◌∙◌}
use native.Mathlib.Numerals.{add-one}
use native.Mathlib.Omega.{arith}
use lib.ListN.{length}
use Rattle.hmac.specs.Secrets.{child_secret, label_key}
use Rattle.envelope_file.proofs.Asked.{asked_whole, asked_at, asked_read, Asking, no_envelope, not_there, there, asking}
use Rattle.envelope_file.proofs.Meaning.{name_at, name_none}
use Rattle.envelope_file.proofs.Walks.{walk_steps, walk_held, walk_down}
use Rattle.envelope_file.proofs.Lawful.{falling, records_few, name_length}
use Rattle.envelope_file.specs.Derive.{Path, held, down, walk_to, derived_at, record_asked, derived_of}
use Rattle.envelope_file.specs.File.{is_held, name_in, place_in, record_named}
use Rattle.envelope_file.specs.Reads.{Falling}
use Rattle.envelope_file.specs.Rows.{DerivedBy}
use Rattle.envelope_file.specs.Whole.{records_of, AcceptedEnvelope}
use Rattle.envelope_file.specs.declared.Derived.{Derived}
use Rattle.envelope_file.specs.declared.Walk.{Walk}

-- two paths to one record have the same steps and lead to the same secret
pub path_one : {file : List ℕ} {k m n : ℕ} {s t : List ℕ} → Path file k m s → Path file k n t → (m ≡ n) × (s ≡ t)
path_one (held e) (held d) = (refl, refl)
path_one (held e) (down d above) = absurd (false≢true (sym d ∙ e))
path_one (down e above) (held d) = absurd (false≢true (sym e ∙ d))
path_one {file} {k} (down e above) (down d other) =
    let r = path_one above other in
    (ap suc r.0, ap (λ (x : List ℕ). child_secret x (name_in file k)) r.1)

-- the walk to record k, as a path
abbrev WalkPath : List ℕ → ℕ → Type 0
WalkPath file k = Path file k (walk_to file k).steps (walk_to file k).secret

step_path : (file : List ℕ) (k : ℕ) → is_held file k ≡ false → WalkPath file (place_in file k)
    → Path file k ((walk_to file (place_in file k)).steps + 1) (child_secret (walk_to file (place_in file k)).secret (name_in file k))
step_path file k e above = rw add-one (down e above)

-- where places fall, every walk is a path
module _ (file : List ℕ) (records : ℕ) (f : Falling file records) where
  paths_below : (n k : ℕ) → k < n → k < records → WalkPath file k
  paths_below zero k h l = absurd (omega arith)
  paths_below (suc n) k h l = go (is_held file k) refl (paths_below n (place_in file k))
    where
      go : (b : Bool) → is_held file k ≡ b → (place_in file k < n → place_in file k < records → WalkPath file (place_in file k)) → WalkPath file k
      go true e rest = rw (walk_held file k e) (held e)
      go false e rest =
          let p = f.falls k l e in
          rw (walk_down file records f k l e) (step_path file k e (rest (omega arith) (omega arith)))

module _ (file : List ℕ) (ok : AcceptedEnvelope file) (k : ℕ) (l : k < records_of file) where
  pub walk_path : Path file k (walk_to file k).steps (walk_to file k).secret
  walk_path = paths_below file (records_of file) (falling file ok) (suc k) k (omega arith) l

  -- "never more than 64"
  pub applications_bound : (walk_to file k).steps + 1 ≤ 64
  applications_bound = omega (arith, walk_steps file k, records_few file ok)

-- the answer for a name that is in the envelope, and no other answer fits the words
module _ (file name : List ℕ) where
  at_record : AcceptedEnvelope file → {k : ℕ} → record_asked file (records_of file) name ≡ Some k → DerivedBy file name (derived_at file k)
  unfolding derived_at
  at_record ok {k} e =
      let at = name_at file name (records_of file) k (asked_at file (records_of file) name k e) in
      record {
        place = k;
        below = at.below;
        carries = at.here;
        first = at.first;
        steps = (walk_to file k).steps;
        secret = (walk_to file k).secret;
        path = walk_path file ok k at.below;
        no_refusal = refl;
        key = ap (label_key (walk_to file k).secret) at.here;
        applications = refl;
        few = applications_bound file ok k at.below;
      }

  pub applications_path : (derived_of file name).refusal ≡ 0 → DerivedBy file name (derived_of file name)
  applications_path e = go (asking file name) e
    where
      go : {d : Derived} → Asking file name d → d.refusal ≡ 0 → DerivedBy file name d
      go (no_envelope h) e = absurd (omega arith)
      go (not_there ok n) e = absurd (omega arith)
      go (there ok f) e = at_record ok f

  found_first : AcceptedEnvelope file → {d : Derived} → (r : DerivedBy file name d) → record_asked file (records_of file) name ≡ Some r.place
  found_first ok r =
      asked_whole file (records_of file) name (ap length (sym r.carries) ∙ name_length file ok r.place r.below)
      ∙ go (record_named file (records_of file) name) refl
    where
      go : (f : Option ℕ) → record_named file (records_of file) name ≡ f → f ≡ Some r.place
      go (Some i) e =
          let at = name_at file name (records_of file) i e in
          let less : i < r.place → ⊥ = λ l. r.first i l at.here in
          let more : r.place < i → ⊥ = λ l. at.first r.place l r.carries in
          ap Some (omega arith)
      go None e = absurd (name_none file name (records_of file) e r.place r.below r.carries)

  pub derived_only : AcceptedEnvelope file → {d : Derived} → DerivedBy file name d → derived_of file name ≡ d
  unfolding derived_at
  derived_only ok {d} r = asked_read file name ok (Some r.place) (found_first ok r) ∙ rw (key, applications, r.no_refusal)
    where
      walk : Walk
      walk = walk_to file r.place

      one : (walk.steps ≡ r.steps) × (walk.secret ≡ r.secret)
      one = path_one (walk_path file ok r.place r.below) r.path

      key : label_key walk.secret (name_in file r.place) ≡ d.key
      key = ap₂ label_key one.1 r.carries ∙ sym r.key

      applications : walk.steps + 1 ≡ d.applications
      applications = ap (λ (n : ℕ). n + 1) one.0 ∙ sym r.applications
