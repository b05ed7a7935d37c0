-- The secrets in an envelope are those of the smallest set, each once, in policy order, and no others.
use Prim.Native.Nat.{ℕ, zero, suc, ◌≤◌, ◌<◌}
use mathlib.Core.Bool.{Bool, true, false}
use mathlib.Core.List.{List, [], ◌∷◌, ◌++◌, map, map-append}
use mathlib.Core.Logic.{◌⊎◌, inl, inr}
use mathlib.Core.Path.{◌≡◌, refl, sym, ap, ap₂, ◌∙◌}
use native.Mathlib.Nat.{le_refl}
use native.Mathlib.Omega.{arith}
use Rattle.envelope_file.specs.File.{is_held, name_in, secret_in}
use Rattle.envelope_file.specs.Whole.{records_of}
use Rattle.trees.proofs.Lists.{answers}
use Rattle.trees.proofs.Select.{select_yes, select_no}
use Rattle.trees.specs.Sums.{select}
use Rattle.trees.specs.Weights.{in_smallest, smallest}
use Rattle.envelopes.specs.Envelope.{place_below, envelope_of, held_secrets, held_names}
use Rattle.envelopes.specs.Labels.{Labels, Issue}
use Rattle.envelopes.specs.Secrets.{secret_of}
use Rattle.envelopes.proofs.Places.{place_here, place_skip}
use Rattle.envelopes.proofs.Read.{how_many}
use Rattle.envelopes.proofs.Records.{reads_held, reads_name, reads_secret}
use Rattle.envelopes.proofs.Under.{outside}

module _ {n : ℕ} {R : ℕ → ℕ → Type 0} {le : ℕ → ℕ → Bool} {name : ℕ → List ℕ} {parent : ℕ → ℕ} (L : Labels n R le name parent)
    {l account : ℕ} {root : List ℕ} (I : Issue n l account root) where
  abbrev file : List ℕ
  file = envelope_of name le parent root l n account

  abbrev place : ℕ → ℕ
  place = place_below le l

  -- what is read of the records that hold secrets, for what is said of the labels of the smallest set
  module _ (read said : ℕ → List ℕ) (same : (m : ℕ) → m < n → le m l ≡ true → in_smallest le parent l m ≡ true → read (place m) ≡ said m) where
    abbrev Agree : ℕ → Type 0
    Agree m = map read (select (is_held file) (place m)) ≡ map said (select (in_smallest le parent l) m)

    held_upto : (m : ℕ) → m ≤ n → Agree m
    unfolding select place_below
    held_upto zero h = refl
    held_upto (suc m) h = go (held_upto m (omega arith)) (answers (le m l)) (answers (in_smallest le parent l m))
      where
        added : (f : ℕ → List ℕ) (t : ℕ → Bool) (k : ℕ) → t k ≡ true → map f (select t (suc k)) ≡ map f (select t k) ++ (f k ∷ [])
        added f t k e = ap (map f) (select_yes t k e) ∙ map-append f (select t k) (k ∷ [])

        go : Agree m → (le m l ≡ true) ⊎ (le m l ≡ false) → (in_smallest le parent l m ≡ true) ⊎ (in_smallest le parent l m ≡ false) → Agree (suc m)
        go ih (inl e) (inl t) =
            ap (λ (k : ℕ). map read (select (is_held file) k)) (place_here le l m e)
            ∙ added read (is_held file) (place m) (reads_held L I m h e ∙ t)
            ∙ ap₂ (λ (s : List (List ℕ)) (x : List ℕ). s ++ (x ∷ [])) ih (same m h e t)
            ∙ sym (added said (in_smallest le parent l) m t)
        go ih (inl e) (inr f) =
            ap (λ (k : ℕ). map read (select (is_held file) k)) (place_here le l m e)
            ∙ ap (map read) (select_no (is_held file) (place m) (reads_held L I m h e ∙ f))
            ∙ ih
            ∙ ap (map said) (sym (select_no (in_smallest le parent l) m f))
        go ih (inr e) t =
            ap (λ (k : ℕ). map read (select (is_held file) k)) (place_skip le l m e)
            ∙ ih
            ∙ ap (map said) (sym (select_no (in_smallest le parent l) m (outside le parent l m e)))

    held_all : map read (select (is_held file) (records_of file)) ≡ map said (smallest n le parent l)
    unfolding smallest
    held_all = ap (λ (k : ℕ). map read (select (is_held file) k)) (how_many L I) ∙ held_upto n (le_refl n)

  -- "`KS`, name, 32-byte secret .., for a label in the smallest set"
  pub held_secrets_lem : held_secrets (envelope_of name le parent root l n account) ≡ map (secret_of name parent root) (smallest n le parent l)
  unfolding held_secrets
  held_secrets_lem = held_all (secret_in file) (secret_of name parent root) (reads_secret L I)

  pub held_names_lem : held_names (envelope_of name le parent root l n account) ≡ map name (smallest n le parent l)
  unfolding held_names
  held_names_lem = held_all (name_in file) name (λ m hm e t. reads_name L I m hm e)
