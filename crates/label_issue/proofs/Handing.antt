-- The envelope of an account is no longer than the buffer that it is written into before it is handed out.
use Prim.Native.Nat.{ℕ, zero, suc, ◌+◌, ◌*◌, ◌≤◌}
use mathlib.Core.Bool.{Bool, true, false, cond}
use mathlib.Core.List.{List, [], ◌∷◌}
use mathlib.Core.Path.{◌≡◌}
use native.Mathlib.Omega.{arith}
use lib.ListN.{length, drop, length-append, length-take}
use Rattle.envelopes.proofs.Secrets.{secret_length}
use Rattle.envelopes.specs.Envelope.{held_record, under_record, header, place_below, record_of, records_below, envelope_of}
use Rattle.envelopes.specs.Secrets.{secret_of}
use Rattle.policy_file.specs.File.{name_of}
use Rattle.trees.specs.Weights.{in_smallest}

module _ (policy : List ℕ) (le : ℕ → ℕ → Bool) (parent : ℕ → ℕ) (root : List ℕ) (l : ℕ) where
  abbrev records : ℕ → List ℕ
  records = records_below (name_of policy) le parent root l

  name_upto : (m : ℕ) → length (name_of policy m) ≤ 8
  unfolding name_of
  name_upto m = omega (arith, length-take 8 (drop (12 * m + 2) policy))

  module _ (whole : length root ≡ 32) where
    -- a record has at most 42 bytes
    record_upto : (m : ℕ) → length (record_of (name_of policy) le parent root l m) ≤ 42
    unfolding record_of
    record_upto m = go (in_smallest le parent l m)
      where
        secret : List ℕ
        secret = secret_of (name_of policy) parent root m

        place : ℕ
        place = place_below le l (parent m)

        go : (held : Bool) → length (cond held (held_record (name_of policy m) secret) (under_record (name_of policy m) place)) ≤ 42
        go true = omega (arith, length-append (name_of policy m) secret, name_upto m, secret_length (name_of policy) parent root whole m)
        go false = omega (arith, length-append (name_of policy m) (place ∷ []), name_upto m)

    records_upto : (m : ℕ) → length (records m) ≤ 42 * m
    unfolding records_below
    records_upto zero = omega arith
    records_upto (suc m) = omega (arith, length-append (records m) (cond (le m l) one []), records_upto m, go (le m l))
      where
        one : List ℕ
        one = record_of (name_of policy) le parent root l m

        go : (b : Bool) → length (cond b one []) ≤ 42
        go true = record_upto m
        go false = omega arith

    -- 2,700 bytes are enough for the records of 64 labels
    pub envelope_upto : (labels account : ℕ) → labels ≤ 64 → length (envelope_of (name_of policy) le parent root l labels account) ≤ 2_700
    unfolding envelope_of
    envelope_upto labels account few =
        omega (arith, length-append (header account (name_of policy l)) (records labels), name_upto l, records_upto labels)
