-- Demand 2: from the envelope alone the desk derives the issuer's own key of every label at or below l, and no other name opens anything.
use Rattle.std.specs.Prelude.{None, Option, Some}
use Prim.Native.Nat.{ℕ, zero, suc, ◌+◌, ◌<◌}
use mathlib.Core.Bool.{Bool, true, false, cond}
use mathlib.Core.List.{List}
use mathlib.Core.Logic.{◌⊎◌, inl, inr, ◌≢◌}
use mathlib.Core.Path.{◌≡◌, refl, sym, ap, ap₂, ◌∙◌}
use native.Mathlib.Omega.{arith}
use borrow.Author.Tests.{eq-eqb}
use lib.Dec.{eqb}
use lib.ListN.{length}
use Rattle.envelope_file.proofs.Lawful.{falling, names_distinct}
use Rattle.envelope_file.proofs.Meaning.{name_at, name_none, name_new}
use Rattle.envelope_file.proofs.Walks.{walk_held, walk_down}
use Rattle.envelope_file.specs.Derive.{step_down, walk_to, refused_derived, derived_at, on_found, record_asked, derived_of}
use Rattle.envelope_file.specs.File.{name_in, record_named}
use Rattle.envelope_file.specs.Reads.{Falling}
use Rattle.envelope_file.specs.declared.Walk.{Walk}
use Rattle.hmac.specs.Secrets.{label_key}
use Rattle.trees.proofs.Lists.{answers}
use Rattle.trees.proofs.Order.{test_yes, test_says}
use Rattle.trees.specs.Weights.{in_smallest}
use Rattle.envelopes.specs.Envelope.{place_below, envelope_of, steps_to}
use Rattle.envelopes.specs.Labels.{Labels, Issue}
use Rattle.envelopes.specs.Secrets.{secret_of, key_of}
use Rattle.envelopes.proofs.Places.{LabelAt, place_before, place_label}
use Rattle.envelopes.proofs.Read.{is_accepted, how_many}
use Rattle.envelopes.proofs.Records.{reads_held, reads_name, reads_secret, reads_place}
use Rattle.envelopes.proofs.Secrets.{tree_falls, secret_child}
use Rattle.envelopes.proofs.Steps.{steps_held, steps_down}
use Rattle.envelopes.proofs.Under.{not_smallest}

module _ {n : ℕ} {R : ℕ → ℕ → Type 0} {le : ℕ → ℕ → Bool} {name : ℕ → List ℕ} {parent : ℕ → ℕ} (L : Labels n R le name parent)
    {l account : ℕ} {root : List ℕ} (I : Issue n l account root) where
  abbrev file : List ℕ
  file = envelope_of name le parent root l n account

  abbrev place : ℕ → ℕ
  place = place_below le l

  abbrev secret : ℕ → List ℕ
  secret = secret_of name parent root

  abbrev steps : ℕ → ℕ
  steps = steps_to le parent l

  places_fall : Falling file (place n)
  places_fall = rw (how_many L I) at (falling file (is_accepted L I))

  -- ---- the way to a label's secret: to that of its parent, and one step on

  abbrev Walks : ℕ → Type 0
  Walks m = walk_to file (place m) ≡ record { secret = secret m; steps = steps m }

  walk_smallest : (m : ℕ) → m < n → le m l ≡ true → in_smallest le parent l m ≡ true → Walks m
  walk_smallest m hm e t =
      walk_held file (place m) (reads_held L I m hm e ∙ t)
      ∙ ap₂ (λ (s : List ℕ) (k : ℕ). record { secret = s; steps = k }) (reads_secret L I m hm e t) (sym (steps_held le parent l m t))

  walk_under : (m : ℕ) → m < n → le m l ≡ true → in_smallest le parent l m ≡ false → Walks (parent m) → Walks m
  walk_under m hm e f above =
      let u = not_smallest L I.label m hm e f in
      let down = walk_down file (place n) places_fall (place m) (place_before le l m n hm e) (reads_held L I m hm e ∙ f) in
      down
      ∙ ap₂ (λ (k : ℕ) (s : List ℕ). step_down (walk_to file k) s) (reads_place L I m hm e f) (reads_name L I m hm e)
      ∙ ap (λ (w : Walk). step_down w (name m)) above
      ∙ ap₂ (λ (s : List ℕ) (k : ℕ). record { secret = s; steps = k })
      (sym (secret_child name parent root m u.other (tree_falls L.order L.tree m hm)))
      (sym (steps_down L I.label m hm e f))

  walks_before : (f m : ℕ) → m < f → m < n → le m l ≡ true → Walks m
  walks_before zero m hf hm e = absurd (omega arith)
  walks_before (suc f) m hf hm e = go (answers (in_smallest le parent l m)) (walks_before f (parent m))
    where
      go : (in_smallest le parent l m ≡ true) ⊎ (in_smallest le parent l m ≡ false) → (parent m < f → parent m < n → le (parent m) l ≡ true → Walks (parent m)) → Walks m
      go (inl t) ih = walk_smallest m hm e t
      go (inr t) ih = let u = not_smallest L I.label m hm e t in walk_under m hm e t (ih (omega (arith, u.falls)) u.label u.below)

  -- "the tree steps from the held secret" lead to the issuer's own secret
  pub walks : (m : ℕ) → m < n → le m l ≡ true
      → walk_to (envelope_of name le parent root l n account) (place_below le l m) ≡ record { secret = secret_of name parent root m; steps = steps_to le parent l m }
  walks m hm e = walks_before (suc m) m (omega arith) hm e

  -- ---- the search for a name

  -- the name of a label at or below l is found in its record
  finds : (m : ℕ) → m < n → le m l ≡ true → record_named file (place n) (name m) ≡ Some (place m)
  finds m hm e = go (record_named file (place n) (name m)) refl
    where
      go : (f : Option ℕ) → record_named file (place n) (name m) ≡ f → f ≡ Some (place m)
      go (Some k) h =
          let found = name_at file (name m) (place n) k h in
          let same : name_in file k ≡ name_in file (place m) = found.here ∙ sym (reads_name L I m hm e) in
          let early : place m < place n = place_before le l m n hm e in
          ap Some (names_distinct file (is_accepted L I) k (place m) (omega (arith, how_many L I, found.below)) (omega (arith, how_many L I)) same)
      go None h = absurd (name_none file (name m) (place n) h (place m) (place_before le l m n hm e) (reads_name L I m hm e))

  -- and a name of none of them is not found
  misses : (asked : List ℕ) → ((m : ℕ) → m < n → le m l ≡ true → asked ≢ name m) → record_named file (place n) asked ≡ None
  misses asked other = name_new file asked (place n) (λ k h. at k (place_label le l n k h))
    where
      at : (k : ℕ) → LabelAt le l n k → name_in file k ≢ asked
      at k a e = other a.label a.early a.below (sym e ∙ ap (name_in file) (sym a.place) ∙ reads_name L I a.label a.early a.below)

  searches : (asked : List ℕ) → derived_of file asked ≡ on_found file (record_asked file (place n) asked)
  unfolding derived_of
  searches asked = rw (is_accepted L I, how_many L I)

  -- ---- the answers

  -- a label at or below l: its key as the issuer has it, after its tree steps and one application more
  pub opens : (m : ℕ) → m < n → R m l → derived_of (envelope_of name le parent root l n account) (name m)
      ≡ record { refusal = 0; key = key_of name parent root m; applications = steps_to le parent l m + 1 }
  unfolding record_asked derived_at key_of
  opens m hm r =
      let e : le m l ≡ true = test_yes L.order hm I.label r in
      let there : record_asked file (place n) (name m) ≡ Some (place m) = rw (eq-eqb (length (name m)) 8 (L.eight m hm)) (finds m hm e) in
      searches (name m)
      ∙ ap (on_found file) there
      ∙ ap₂ (λ (w : Walk) (s : List ℕ). record { refusal = 0; key = label_key w.secret s; applications = w.steps + 1 }) (walks m hm e) (reads_name L I m hm e)

  -- "name asked for is not in it, or not 8 bytes": anything but the name of such a label
  pub refuses : (asked : List ℕ) → ((m : ℕ) → m < n → R m l → asked ≢ name m) → derived_of (envelope_of name le parent root l n account) asked ≡ refused_derived 20
  unfolding record_asked
  refuses asked other =
      let none : record_named file (place n) asked ≡ None = misses asked (λ m hm e. other m hm (test_says L.order hm I.label e)) in
      searches asked ∙ ap (on_found file) (ap (λ (f : Option ℕ). cond (eqb (length asked) 8) f None) none ∙ either (eqb (length asked) 8))
    where
      either : (t : Bool) → cond {A = Option ℕ} t None None ≡ None
      either true = refl
      either false = refl
