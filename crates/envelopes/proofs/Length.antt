-- How long an envelope is, and what two envelopes at one label have in common: all but the account number.
use Prim.Native.Nat.{ℕ, zero, suc, ◌+◌, ◌*◌, ◌≤◌}
use mathlib.Core.Bool.{Bool, true, false}
use mathlib.Core.List.{List, [], ◌∷◌}
use mathlib.Core.Logic.{◌⊎◌, inl, inr, ◌≢◌}
use mathlib.Core.Path.{◌≡◌, refl, ap, ◌∙◌}
use native.Mathlib.Nat.{le_refl}
use native.Mathlib.Omega.{arith}
use lib.ListN.{length, get_or, length-append}
use Rattle.envelope_file.specs.File.{record_size}
use Rattle.trees.proofs.Lists.{answers}
use Rattle.trees.proofs.Select.{select_yes, select_no}
use Rattle.trees.proofs.Widths.{size_bound}
use Rattle.trees.specs.Sums.{select}
use Rattle.trees.specs.Weights.{in_smallest, smallest}
use Rattle.envelopes.specs.Envelope.{place_below, record_of, records_below, envelope_of}
use Rattle.envelopes.specs.Labels.{Labels, Issue}
use Rattle.envelopes.proofs.Places.{place_here, place_skip, place_upto}
use Rattle.envelopes.proofs.Under.{outside}
use Rattle.envelopes.proofs.Written.{records_here, records_skip, sized, file_length}

module _ {n : ℕ} {R : ℕ → ℕ → Type 0} {le : ℕ → ℕ → Bool} {name : ℕ → List ℕ} {parent : ℕ → ℕ} (L : Labels n R le name parent)
    {l account : ℕ} {root : List ℕ} (I : Issue n l account root) where
  abbrev records : ℕ → List ℕ
  records = records_below name le parent root l

  abbrev secrets : ℕ → List ℕ
  secrets = select (in_smallest le parent l)

  abbrev Sized : ℕ → Type 0
  Sized m = length (records m) ≡ 11 * place_below le l m + 31 * length (secrets m)

  -- 11 bytes for a record, and 31 more for one that holds a secret
  records_length : (m : ℕ) → m ≤ n → Sized m
  unfolding records_below place_below select
  records_length zero h = refl
  records_length (suc m) h = go (records_length m (omega arith)) (answers (le m l)) (answers (in_smallest le parent l m))
    where
      one : List ℕ
      one = record_of name le parent root l m

      more : le m l ≡ true → length (records (suc m)) ≡ length (records m) + length one
      more e = ap length (records_here name le parent root l m e) ∙ length-append (records m) one

      go : Sized m → (le m l ≡ true) ⊎ (le m l ≡ false) → (in_smallest le parent l m ≡ true) ⊎ (in_smallest le parent l m ≡ false) → Sized (suc m)
      go ih (inl e) (inl t) =
          let size : length one ≡ 42 = sized L I m h ∙ ap record_size t in
          omega (arith, more e, place_here le l m e, ap length (select_yes (in_smallest le parent l) m t), length-append (secrets m) (m ∷ []))
      go ih (inl e) (inr f) =
          let size : length one ≡ 11 = sized L I m h ∙ ap record_size f in
          omega (arith, more e, place_here le l m e, ap length (select_no (in_smallest le parent l) m f))
      go ih (inr e) t =
          omega (arith, ap length (records_skip name le parent root l m e), place_skip le l m e, ap length (select_no (in_smallest le parent l) m (outside le parent l m e)))

  pub envelope_length : length (envelope_of name le parent root l n account) ≡ 12 + 11 * place_below le l n + 31 * length (smallest n le parent l)
  unfolding smallest
  envelope_length = omega (arith, file_length L I, records_length n (le_refl n))

  -- 2,700 bytes are always enough
  pub envelope_short : length (envelope_of name le parent root l n account) ≤ 2_700
  envelope_short = omega (arith, envelope_length, place_upto le l n, size_bound n L.few le parent l, L.few)

-- two accounts at one label
module _ (name : ℕ → List ℕ) (le : ℕ → ℕ → Bool) (parent : ℕ → ℕ) (root : List ℕ) (l n a b : ℕ) where
  pub accounts_length : length (envelope_of name le parent root l n a) ≡ length (envelope_of name le parent root l n b)
  unfolding envelope_of
  accounts_length = refl

  -- every byte but those of the account number, at places 2 and 3
  pub accounts_alike : (i : ℕ) → i ≢ 2 → i ≢ 3 → get_or (envelope_of name le parent root l n a) i 0 ≡ get_or (envelope_of name le parent root l n b) i 0
  unfolding envelope_of
  accounts_alike zero h k = refl
  accounts_alike (suc zero) h k = refl
  accounts_alike (suc (suc zero)) h k = absurd (h refl)
  accounts_alike (suc (suc (suc zero))) h k = absurd (k refl)
  accounts_alike (suc (suc (suc (suc i)))) h k = refl
