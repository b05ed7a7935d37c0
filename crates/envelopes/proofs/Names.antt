-- The labels that the desk reads in an envelope as it is written: those at or below l, in policy order.
use Prim.Native.Nat.{ℕ, ◌*◌, ◌<◌}
use mathlib.Core.Bool.{Bool, true}
use mathlib.Core.List.{List}
use mathlib.Core.Path.{◌≡◌, ap₂, ◌∙◌}
use native.Mathlib.Omega.{arith}
use lib.ListN.{replicate}
use Rattle.envelope_file.proofs.Labelled.{labels_read, label_names}
use Rattle.envelope_file.specs.Labels.{names_in, envelope_labels}
use Rattle.format.specs.Bytes.{bytes_at}
use Rattle.trees.proofs.Order.{test_yes}
use Rattle.envelopes.specs.Envelope.{place_below, envelope_of}
use Rattle.envelopes.specs.Labels.{Labels, Issue}
use Rattle.envelopes.proofs.Places.{place_before}
use Rattle.envelopes.proofs.Read.{is_accepted, how_many}
use Rattle.envelopes.proofs.Records.{reads_name}
use Rattle.envelopes.proofs.Written.{account_in_lem}

module _ {n : ℕ} {R : ℕ → ℕ → Type 0} {le : ℕ → ℕ → Bool} {name : ℕ → List ℕ} {parent : ℕ → ℕ} (L : Labels n R le name parent)
    {l account : ℕ} {root : List ℕ} (I : Issue n l account root) where
  abbrev file : List ℕ
  file = envelope_of name le parent root l n account

  -- the account, and as many labels as are at or below l
  pub reads_labels : envelope_labels (envelope_of name le parent root l n account)
      ≡ record { refusal = 0; zeros = replicate 5 0; account = account; labels = place_below le l n; names = names_in (envelope_of name le parent root l n account) (place_below le l n) }
  reads_labels =
      labels_read file (is_accepted L I)
      ∙ ap₂ (λ (a k : ℕ). record { refusal = 0; zeros = replicate 5 0; account = a; labels = k; names = names_in file k }) (account_in_lem L I) (how_many L I)

  -- the name of each of them, at its place among them
  pub names_label : (m : ℕ) → m < n → R m l
      → bytes_at (envelope_labels (envelope_of name le parent root l n account)).names (8 * place_below le l m) 8 ≡ name m
  names_label m hm r =
      let e : le m l ≡ true = test_yes L.order hm I.label r in
      label_names file (is_accepted L I) (place_below le l m) (omega (arith, how_many L I, place_before le l m n hm e)) ∙ reads_name L I m hm e
